-- A verdict refuses exactly where its code is not 0, as the code tests it; and what an outcome stands for fixes the outcome. Assumes nothing.
use Rattle.std.specs.Prelude.{Result, Ok, Err, is_err}
use Prim.Native.Nat.{ℕ}
use mathlib.Core.Path.{◌≡◌, refl, sym, ap, ◌∙◌}
use mathlib.Core.Bool.{true, false}
use mathlib.Core.List.{[], ◌∷◌}
use native.Mathlib.Nat.{pos_of_ne-zero}
use native.Mathlib.Omega.{arith}
use borrow.Author.Tests.{lt-ltb}
use Rattle.rules.specs.Verdicts.{refuses, first}
use Rattle.rules.specs.declared.Verdict.{Verdict}
use Rattle.answers.specs.declared.Refusal.{Refusal}
use Rattle.answers.specs.declared.Refusal.TheVariants.{Kind, Size, Version, Header, Piggybacked, Length, MessageType, OtherKind, Teid, Cut, Table, Short, Missing, Copy, Given, Room, Misread, State}
use Rattle.answers.specs.Refusals.{verdict_of, outcome, sent_of}

pub refusing : (v : Verdict) → (v.code ≡ 0 → ⊥) → refuses v ≡ true
refusing v n = lt-ltb 0 v.code (pos_of_ne-zero n)

pub accepting : (v : Verdict) → v.code ≡ 0 → refuses v ≡ false
accepting v e = rw e

-- a refusal by its name refuses
pub named_refuses : (r : Refusal) → refuses (verdict_of r) ≡ true
named_refuses Kind = refl
named_refuses Size = refl
named_refuses Version = refl
named_refuses Header = refl
named_refuses Piggybacked = refl
named_refuses Length = refl
named_refuses MessageType = refl
named_refuses OtherKind = refl
named_refuses Teid = refl
named_refuses (Cut place) = refl
named_refuses Table = refl
named_refuses (Short place typ inst) = refl
named_refuses (Missing place typ inst) = refl
named_refuses Copy = refl
named_refuses Given = refl
named_refuses Room = refl
named_refuses Misread = refl
named_refuses State = refl

-- what is handed on of a verdict that refuses, refuses
pub handed_on : {v : Verdict} (r : Verdict) → v ≡ first (r ∷ []) → true ≡ refuses r → true ≡ refuses v
unfolding first
handed_on r e n = let same : first (r ∷ []) ≡ r = rw (← n) refl in rw (e, same) n

-- an outcome that is an error exactly where its verdict refuses
abbrev pub Apart : Result ℕ Verdict → Type 0
Apart r = is_err r ≡ refuses (sent_of r).verdict

no_error : {v w : Verdict} → refuses v ≡ false → true ≡ refuses w → v ≡ w → ⊥
no_error {v} {w} n e same = let u : true ≡ false = e ∙ sym (ap refuses same) ∙ n in let z : ◌≡◌ {A = ℕ} 0 1 = cc in omega arith

-- is the one of its verdict and its length
pub sent_unique : (r r' : Result ℕ Verdict) → Apart r → Apart r' → (sent_of r).verdict ≡ (sent_of r').verdict → (sent_of r).length ≡ (sent_of r').length → r ≡ r'
sent_unique (Ok n) (Ok n') a a' v l = rw l
sent_unique (Ok n) (Err w) a a' v l = absurd (no_error refl a' v)
sent_unique (Err w) (Ok n) a a' v l = absurd (no_error refl a (sym v))
sent_unique (Err w) (Err w') a a' v l = rw v

-- and an outcome without a number is the one of its verdict
pub outcome_unique : (r r' : Result (Unit {0}) Verdict) → is_err r ≡ is_err r' → outcome r ≡ outcome r' → r ≡ r'
outcome_unique (Ok u) (Ok u') e o = refl
outcome_unique (Ok u) (Err w) e o = let t : true ≡ false = sym e in let z : ◌≡◌ {A = ℕ} 0 1 = cc in absurd (omega arith)
outcome_unique (Err w) (Ok u) e o = let t : true ≡ false = e in let z : ◌≡◌ {A = ℕ} 0 1 = cc in absurd (omega arith)
outcome_unique (Err w) (Err w') e o = rw o
