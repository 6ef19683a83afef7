-- The header copied and put right, and the body after it, are the cleaned copy laid over the buffer. Assumes nothing.
use mathlib.Core.Path.{◌≡◌, sym, ap, ◌∙◌}
use mathlib.Core.List.{List, [], ◌∷◌, ◌++◌, append_assoc}
use Prim.Native.Nat.{ℕ, zero, suc, ◌+◌, ◌-◌, ◌/◌, ◌%◌, ◌≤◌}
use native.Mathlib.Omega.{arith}
use lib.ListN.{length, set, take, drop, length-append}
use lib.Seq.{length-take-le, take_at, drop_at, drop-drop}
use Rattle.rules.specs.Framing.{octet}
use Rattle.rules.specs.Table.{laid}
use Rattle.rules.specs.Emitting.{written}
use Rattle.emitting.specs.Emits.{over}
use Rattle.cleaning.specs.Cleaning.{front_octets}

-- past four octets
past-front : (j : ℕ) (xs out : List ℕ) (n : ℕ) → length xs ≡ j → drop (j + n) (xs ++ drop j out) ≡ drop (j + n) out
past-front j xs out n e = sym (drop-drop n j (xs ++ drop j out)) ∙ ap (drop n) (drop_at xs (drop j out) j e) ∙ drop-drop n j out

four-front : (a b c d : ℕ) (m : List ℕ) (p q r s : ℕ) (out : List ℕ) (j x y : ℕ) (body : List ℕ) → j ≤ length m
    → over (set (set (take (suc (suc (suc (suc j)))) (a ∷ b ∷ c ∷ d ∷ m) ++ drop (suc (suc (suc (suc j)))) (p ∷ q ∷ r ∷ s ∷ out)) 2 x) 3 y) (suc (suc (suc (suc j)))) body
    ≡ (a ∷ b ∷ x ∷ y ∷ (take j m ++ body)) ++ drop (suc (suc (suc (suc (j + length body))))) (p ∷ q ∷ r ∷ s ∷ out)
four-front a b c d m p q r s out j x y body l =
    let t : length (take j m) ≡ j = length-take-le j m l in
    let e : suc (suc (suc (suc j))) + length body ≡ suc (suc (suc (suc (j + length body)))) = omega arith in
    let f : take j (take j m ++ drop j out) ≡ take j m = take_at (take j m) (drop j out) j t in
    let g : drop (j + length body) (take j m ++ drop j out) ≡ drop (j + length body) out = past-front j (take j m) out (length body) t in
    rw (e, f, g) (ap (λ (zs : List ℕ). a ∷ b ∷ x ∷ y ∷ zs) (sym (append_assoc (take j m) body (drop (j + length body) out))))

front-by-start : (a b c d : ℕ) (m : List ℕ) (p q r s : ℕ) (out : List ℕ) (hl n : ℕ) (body : List ℕ) → 4 ≤ hl → hl ≤ length (a ∷ b ∷ c ∷ d ∷ m) → hl ≤ length (p ∷ q ∷ r ∷ s ∷ out) → n ≡ hl + length body
    → over (front_octets (a ∷ b ∷ c ∷ d ∷ m) hl n (p ∷ q ∷ r ∷ s ∷ out)) hl body ≡ laid (written (octet (a ∷ b ∷ c ∷ d ∷ m) 0) (octet (a ∷ b ∷ c ∷ d ∷ m) 1) (take (hl - 4) (drop 4 (a ∷ b ∷ c ∷ d ∷ m))) body) (p ∷ q ∷ r ∷ s ∷ out)
unfolding laid
front-by-start a b c d m p q r s out zero n body l h o e = absurd (omega arith)
front-by-start a b c d m p q r s out (suc zero) n body l h o e = absurd (omega arith)
front-by-start a b c d m p q r s out (suc (suc zero)) n body l h o e = absurd (omega arith)
front-by-start a b c d m p q r s out (suc (suc (suc zero))) n body l h o e = absurd (omega arith)
front-by-start a b c d m p q r s out (suc (suc (suc (suc j)))) n body l h o e =
    let z : 0 + suc (suc (suc (suc j))) ≡ suc (suc (suc (suc j))) = omega arith in
    let k : suc (suc (suc (suc j))) - 4 ≡ j = omega arith in
    let t : length (take j m) ≡ j = length-take-le j m (omega arith) in
    let x : n - 4 ≡ j + length body = omega arith in
    let w : length (take j m ++ body) ≡ j + length body = omega (arith, length-append (take j m) body) in
    rw (z, k, x, t, w) (four-front a b c d m p q r s out j ((j + length body) / 256) ((j + length body) % 256) body (omega arith))

front-by-out : (a b c d : ℕ) (m out : List ℕ) (hl n : ℕ) (body : List ℕ) → 4 ≤ hl → hl ≤ length (a ∷ b ∷ c ∷ d ∷ m) → hl ≤ length out → n ≡ hl + length body
    → over (front_octets (a ∷ b ∷ c ∷ d ∷ m) hl n out) hl body ≡ laid (written (octet (a ∷ b ∷ c ∷ d ∷ m) 0) (octet (a ∷ b ∷ c ∷ d ∷ m) 1) (take (hl - 4) (drop 4 (a ∷ b ∷ c ∷ d ∷ m))) body) out
front-by-out a b c d m [] hl n body l h o e = absurd (omega arith)
front-by-out a b c d m (p ∷ []) hl n body l h o e = absurd (omega arith)
front-by-out a b c d m (p ∷ q ∷ []) hl n body l h o e = absurd (omega arith)
front-by-out a b c d m (p ∷ q ∷ r ∷ []) hl n body l h o e = absurd (omega arith)
front-by-out a b c d m (p ∷ q ∷ r ∷ s ∷ out) hl n body l h o e = front-by-start a b c d m p q r s out hl n body l h o e

pub front-laid : (m out : List ℕ) (hl n : ℕ) (body : List ℕ) → 4 ≤ hl → hl ≤ length m → hl ≤ length out → n ≡ hl + length body
    → over (front_octets m hl n out) hl body ≡ laid (written (octet m 0) (octet m 1) (take (hl - 4) (drop 4 m)) body) out
front-laid [] out hl n body l h o e = absurd (omega arith)
front-laid (a ∷ []) out hl n body l h o e = absurd (omega arith)
front-laid (a ∷ b ∷ []) out hl n body l h o e = absurd (omega arith)
front-laid (a ∷ b ∷ c ∷ []) out hl n body l h o e = absurd (omega arith)
front-laid (a ∷ b ∷ c ∷ d ∷ m) out hl n body l h o e = front-by-out a b c d m out hl n body l h o e
