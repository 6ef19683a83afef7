-- How many digits a number has, by the powers of ten that it reaches: five at most. Assumes nothing.
use mathlib.Core.Path.{◌≡◌}
use mathlib.Core.Bool.{Bool, true, false, cond}
use mathlib.Core.List.{[], ◌∷◌, ◌++◌}
use Prim.Native.Nat.{ℕ, ◌+◌, ◌/◌, ◌%◌, ◌≤◌, ◌<◌}
use native.Mathlib.Omega.{arith}
use borrow.Author.Tests.{lt-ltb, le-ltb}
use lib.Dec.{ltb}
use lib.ListN.{length, length-append}
use Rattle.rules.specs.Program.{digit_at, decimal}

module _ (n : ℕ) where
  pub one-digit : n < 10 → 1 ≡ length (decimal n)
  unfolding decimal digit_at
  one-digit h = rw (lt-ltb n 10000 (omega arith), lt-ltb n 1000 (omega arith), lt-ltb n 100 (omega arith), lt-ltb n 10 h)

  pub two_digits : 10 ≤ n → n < 100 → 2 ≡ length (decimal n)
  unfolding decimal digit_at
  two_digits l h = rw (lt-ltb n 10000 (omega arith), lt-ltb n 1000 (omega arith), lt-ltb n 100 h, le-ltb n 10 l)

  pub three-digits : 100 ≤ n → n < 1000 → 3 ≡ length (decimal n)
  unfolding decimal digit_at
  three-digits l h = rw (lt-ltb n 10000 (omega arith), lt-ltb n 1000 h, le-ltb n 100 l, le-ltb n 10 (omega arith))

  pub four-digits : 1000 ≤ n → n < 10000 → 4 ≡ length (decimal n)
  unfolding decimal digit_at
  four-digits l h = rw (lt-ltb n 10000 h, le-ltb n 1000 l, le-ltb n 100 (omega arith), le-ltb n 10 (omega arith))

  pub five-digits : 10000 ≤ n → 5 ≡ length (decimal n)
  unfolding decimal digit_at
  five-digits l = rw (le-ltb n 10000 l, le-ltb n 1000 (omega arith), le-ltb n 100 (omega arith), le-ltb n 10 (omega arith))

digit-length : (n power : ℕ) → length (digit_at n power) ≤ 1
unfolding digit_at
digit-length n power = go (ltb n power)
  where
    go : (c : Bool) → length (cond c [] ((48 + n / power % 10) ∷ [])) ≤ 1
    go true = omega arith
    go false = omega arith

pub decimal-length : (n : ℕ) → length (decimal n) ≤ 5
unfolding decimal
decimal-length n =
    let d = (48 + n % 10) ∷ [] in
    omega (
      arith,
      digit-length n 10000,
      digit-length n 1000,
      digit-length n 100,
      digit-length n 10,
      length-append (digit_at n 10000) (digit_at n 1000 ++ (digit_at n 100 ++ (digit_at n 10 ++ d))),
      length-append (digit_at n 1000) (digit_at n 100 ++ (digit_at n 10 ++ d)),
      length-append (digit_at n 100) (digit_at n 10 ++ d),
      length-append (digit_at n 10) d,
    )
