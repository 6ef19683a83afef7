-- Two results, with what they leave, that a statement allows for one input are equal. Assumes nothing.
use mathlib.Core.Path.{◌≡◌, sym, ◌∙◌}
use Prim.Native.Nat.{ℕ}
use mathlib.Core.List.{List}
use Rattle.wokdesk.specs.Pages.{Paged, Called}

pub paged_unique : (k right full : ℕ) (m page : List ℕ) (r r' : ℕ) (p p' : List ℕ) → Paged k right full m page r p → Paged k right full m page r' p' → (r ≡ r') × (p ≡ p')
paged_unique k right full m page r r' p p' x y = (x.answers ∙ sym y.answers, x.page_left ∙ sym y.page_left)

pub called_unique : (what n : ℕ) (name : List ℕ) (r r' : ℕ) (c c' : List ℕ) → Called what n name r c → Called what n name r' c' → (r ≡ r') × (c ≡ c')
called_unique what n name r r' c c' x y = (x.answers ∙ sym y.answers, x.name_left ∙ sym y.name_left)
