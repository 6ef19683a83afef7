-- The siblings of a guess, one after the other. Assumes nothing.
use mathlib.Core.Path.{◌≡◌, sym, ap, ◌∙◌}
use mathlib.Core.Bool.{false}
use mathlib.Core.List.{List}
use Prim.Native.Nat.{ℕ, suc, ◌+◌, ◌-◌, ◌*◌, ◌≤◌, ◌<◌}
use native.Mathlib.Omega.{arith}
use borrow.Author.Tests.{lt-ltb, le-ltb}
use lib.Dec.{ltb}
use lib.ListN.{length}
use Rattle.rules.specs.Framing.{two_octets, element_header, header_length}
use Rattle.heading.specs.Header.{Start}
use Rattle.scratch.specs.Guessing.{crowded_from, Two}

-- after n siblings, at a place from which the rest says what all say
pub record Guess (m : List ℕ) (at n : ℕ) : Type 0 where
  pub most : n ≤ 8
  pub low : at ≤ 12 + 65540 * n
  pub rest : crowded_from m at (8 - n) ≡ crowded_from m (header_length m) 8

pub begins : (m : List ℕ) {at : ℕ} → Start m at → Guess m at 0
begins m s = record { most = omega arith; low = omega (arith, s.most); rest = ap (λ (p : ℕ). crowded_from m p 8) s.is }

module _ (m : List ℕ) (at n : ℕ) (g : Guess m at n) where
  one_less : n < 8 → 8 - n ≡ suc (8 - (n + 1))
  one_less h = omega arith

  -- the message ends there
  pub ends : n < 8 → length m < at + element_header → false ≡ crowded_from m (header_length m) 8
  unfolding crowded_from
  ends h l = let e : crowded_from m at (8 - n) ≡ false = rw (one_less h, lt-ltb (length m) (at + 4) l) in sym e ∙ g.rest

  pub next : n < 8 → at + element_header ≤ length m → {v : ℕ} → Two m (at + 1) v → Guess m (at + 4 + v) (n + 1)
  unfolding crowded_from
  next h l {v} t = record {
    most = omega arith;
    low = omega (arith, g.low, t.low);
    rest =
        let f : crowded_from m at (8 - n) ≡ crowded_from m (at + 4 + two_octets m (at + 1)) (8 - (n + 1)) = rw (one_less h, le-ltb (length m) (at + 4) l) in
        ap (λ (w : ℕ). crowded_from m (at + 4 + w) (8 - (n + 1))) t.is ∙ sym f ∙ g.rest;
  }

  -- all eight have been passed
  pub last : 8 ≤ n → ltb (8 * at) (length m) ≡ crowded_from m (header_length m) 8
  unfolding crowded_from
  last h = let z : 8 - n ≡ 0 = omega arith in let e : crowded_from m at (8 - n) ≡ ltb (8 * at) (length m) = rw z in sym e ∙ g.rest
