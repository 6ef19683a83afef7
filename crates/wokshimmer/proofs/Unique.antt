-- What cleaning, building and counting answer is one result: the rules' contract leaves one verdict and one number, and these one outcome. Assumes nothing.
use mathlib.Core.Path.{◌≡◌, sym, ◌∙◌}
use mathlib.Core.List.{List}
use Prim.Native.Nat.{ℕ}
use Rattle.std.specs.Prelude.{Result}
use Rattle.rules.specs.Answers.{Cleans, Builds, Counted}
use Rattle.rules.specs.declared.Verdict.{Verdict}
use Rattle.answers.specs.Refusals.{sent_of, count_of}
use Rattle.answers.proofs.Refusing.{Apart, sent_unique}

module _ (r r' : Result ℕ Verdict) (a : Apart r) (a' : Apart r') where
  pub cleaned_once : (k : ℕ) (m c l l' : List ℕ) → Cleans k m c (sent_of r) l → Cleans k m c (sent_of r') l' → (r ≡ r') × (l ≡ l')
  cleaned_once k m c l l' x y =
      (sent_unique r r' a a' (x.verdict_is ∙ sym y.verdict_is) (x.length_is ∙ sym y.length_is), x.out_left ∙ sym y.out_left)

  pub built_once : (teid sequence : ℕ) (t values room l l' : List ℕ) → Builds teid sequence t values room (sent_of r) l → Builds teid sequence t values room (sent_of r') l'
      → (r ≡ r') × (l ≡ l')
  built_once teid sequence t values room l l' x y =
      (sent_unique r r' a a' (x.verdict_is ∙ sym y.verdict_is) (x.length_is ∙ sym y.length_is), x.room_left ∙ sym y.room_left)

  pub counted_once : (k : ℕ) (m : List ℕ) → Counted k m (count_of r) → Counted k m (count_of r') → r ≡ r'
  counted_once k m x y = sent_unique r r' a a' (x.verdict_is ∙ sym y.verdict_is) (x.rows_is ∙ sym y.rows_is)
