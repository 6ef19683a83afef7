-- Text put after text is the two put at once; and what is put from the start stands there. Assumes nothing.
--     puts_append, then-puts   one text after another
--     puts-length, same-room   no octet is put past the buffer
--     puts-start               from the start of a buffer: as much as fits, over what stood there
use mathlib.Core.Path.{◌≡◌, refl, sym, ap, ◌∙◌}
use mathlib.Core.Bool.{Bool, true, false, cond}
use mathlib.Core.List.{List, [], ◌∷◌, ◌++◌}
use Prim.Native.Nat.{ℕ, ◌+◌, ◌≤◌, ◌<◌}
use native.Mathlib.Omega.{arith}
use borrow.Author.Tests.{lt-ltb, le-ltb}
use lib.Dec.{ltb}
use lib.ListN.{length, take, set, length-append, length-set}
use Rattle.rules.specs.Table.{laid}
use Rattle.wording.specs.Puts.{Paper, put_one, puts, Puts}

pub puts_append : (a c : List ℕ) (p : Paper) → puts (a ++ c) p ≡ puts c (puts a p)
unfolding puts
puts_append [] c p = refl
puts_append (x ∷ a) c p = puts_append a c (put_one x p)

pub then-puts : {a c : List ℕ} {at₀ at₁ at₂ : ℕ} {out₀ out₁ out₂ : List ℕ} → Puts a at₀ out₀ at₁ out₁ → Puts c at₁ out₁ at₂ out₂ → Puts (a ++ c) at₀ out₀ at₂ out₂
then-puts {a} {c} {at₀} {out₀ = out₀} p q = record { done = puts_append a c (record { at = at₀; out = out₀ }) ∙ ap (puts c) p.done ∙ q.done }

-- no octet is put past the buffer
pub puts-length : (t : List ℕ) (p : Paper) → length (puts t p).out ≡ length p.out
unfolding puts put_one
puts-length [] p = refl
puts-length (x ∷ t) p = puts-length t (put_one x p) ∙ go (ltb p.at (length p.out))
  where
    go : (f : Bool) → length (cond f (record { at = p.at + 1; out = set p.out p.at x }) p).out ≡ length p.out
    go true = length-set p.out p.at x
    go false = refl

pub same-room : {t : List ℕ} {at₀ at₁ : ℕ} {out₀ out₁ : List ℕ} → Puts t at₀ out₀ at₁ out₁ → length out₁ ≡ length out₀
same-room {t} {at₀} {out₀ = out₀} p = sym (ap (λ (q : Paper). length q.out) p.done) ∙ puts-length t (record { at = at₀; out = out₀ })

pub puts_none : (at₀ : ℕ) (out₀ : List ℕ) → Puts [] at₀ out₀ at₀ out₀
unfolding puts
puts_none at₀ out₀ = record { done = refl }

pub puts_one : (x at₀ : ℕ) (out₀ : List ℕ) → at₀ < length out₀ → Puts (x ∷ []) at₀ out₀ (at₀ + 1) (set out₀ at₀ x)
unfolding puts put_one
puts_one x at₀ out₀ l = record { done = rw (lt-ltb at₀ (length out₀) l) }

pub puts-full : (x at₀ : ℕ) (out₀ : List ℕ) → length out₀ ≤ at₀ → Puts (x ∷ []) at₀ out₀ at₀ out₀
unfolding puts put_one
puts-full x at₀ out₀ l = record { done = rw (le-ltb at₀ (length out₀) l) }

-- from place `length pre` of pre ++ post on

set_at : (pre post : List ℕ) (o x : ℕ) → set (pre ++ (o ∷ post)) (length pre) x ≡ pre ++ (x ∷ post)
set_at [] post o x = refl
set_at (p ∷ pre) post o x = ap (p ∷◌) (set_at pre post o x)

full-stays : (t : List ℕ) (at₀ : ℕ) (out₀ : List ℕ) → length out₀ ≤ at₀ → Puts t at₀ out₀ at₀ out₀
unfolding puts put_one
full-stays [] at₀ out₀ l = record { done = refl }
full-stays (x ∷ t) at₀ out₀ l = then-puts (puts-full x at₀ out₀ l) (full-stays t at₀ out₀ l)

snoc : (pre post : List ℕ) (x : ℕ) → (pre ++ (x ∷ [])) ++ post ≡ pre ++ (x ∷ post)
snoc [] post x = refl
snoc (p ∷ pre) post x = ap (p ∷◌) (snoc pre post x)

paper : {at₀ at₁ : ℕ} {out₀ out₁ : List ℕ} → at₀ ≡ at₁ → out₀ ≡ out₁ → Path Paper (record { at = at₀; out = out₀ }) (record { at = at₁; out = out₁ })
paper e f = rw (e, f)

puts-from : (t pre post : List ℕ) → Puts t (length pre) (pre ++ post) (length pre + length (take (length post) t)) (pre ++ laid (take (length post) t) post)
unfolding puts laid
puts-from [] pre [] = record { done = paper (omega arith) refl }
puts-from [] pre (o ∷ post) = record { done = paper (omega arith) refl }
puts-from (x ∷ t) pre [] =
    record { done = (full-stays (x ∷ t) (length pre) (pre ++ []) (omega (arith, length-append pre []))).done ∙ paper (omega arith) refl }
puts-from (x ∷ t) pre (o ∷ post) =
    let n = length-append pre (x ∷ []) in record {
      done =
          ap (puts t) (puts_one x (length pre) (pre ++ (o ∷ post)) (omega (arith, length-append pre (o ∷ post)))).done
          ∙ ap (puts t) (paper (omega (arith, n)) (set_at pre post o x ∙ sym (snoc pre post x)))
          ∙ (puts-from t (pre ++ (x ∷ [])) post).done
          ∙ paper (omega (arith, n)) (snoc pre (laid (take (length post) t) post) x);
    }

pub puts-start : (t out₀ : List ℕ) → Puts t 0 out₀ (length (take (length out₀) t)) (laid (take (length out₀) t) out₀)
puts-start t out₀ = record { done = (puts-from t [] out₀).done ∙ paper (omega arith) refl }

-- what is put is determined
pub puts-same : {t : List ℕ} {at₀ at₁ at₂ : ℕ} {out₀ out₁ out₂ : List ℕ} → Puts t at₀ out₀ at₁ out₁ → Puts t at₀ out₀ at₂ out₂ → (at₁ ≡ at₂) × (out₁ ≡ out₂)
puts-same p q = (ap (λ (x : Paper). x.at) (sym p.done ∙ q.done), ap (λ (x : Paper). x.out) (sym p.done ∙ q.done))
