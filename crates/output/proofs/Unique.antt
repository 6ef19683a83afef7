-- Two parts that the statement allows are the same octets at the same place. Assumes nothing.
use mathlib.Core.Path.{◌≡◌, sym, ◌∙◌}
use Prim.Native.Nat.{ℕ}
use mathlib.Core.List.{List}
use denote.Ref.{Bor}
use Rattle.output.specs.Parts.{First}

pub first_unique : (text : Bor (List ℕ)) (n : ℕ) (r r' : Bor (List ℕ)) → First text n r → First text n r' → (r.now ≡ r'.now) × (r.ref_ptr.0 ≡ r'.ref_ptr.0) × (r.ref_ptr.1 ≡ r'.ref_ptr.1)
first_unique text n r r' x y = (x.octets ∙ sym y.octets, x.block ∙ sym y.block, x.place ∙ sym y.place)
