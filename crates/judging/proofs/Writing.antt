-- The table as the code writes it: the header, then the rows behind it. Assumes nothing.
use mathlib.Core.Path.{◌≡◌, sym, ap, ◌∙◌}
use mathlib.Core.List.{List, [], ◌∷◌, ◌++◌}
use Prim.Native.Nat.{ℕ, ◌+◌, ◌-◌, ◌*◌}
use native.Mathlib.Omega.{arith}
use lib.ListN.{length, take, drop}
use lib.Seq.{length-take-le, drop-drop}
use borrow.Rule.Slice.PartMut.{put_mid}
use Rattle.rules.specs.Sizes.{used}
use Rattle.rules.specs.Table.{numbers_by, laid}
use Rattle.judging.specs.Judging.{Writable}

pub written : (n kept typ kind : ℕ) (rows table : List ℕ) {headed part : List ℕ} → Writable n kept rows table → headed ≡ (n ∷ kept ∷ 6 ∷ used n ∷ typ ∷ kind ∷ []) ++ drop 6 table
    → part ≡ take (6 * n) rows → put_mid 6 (6 + 6 * n - 6) headed part ≡ laid (numbers_by n kept typ kind rows) table
unfolding laid
written n kept typ kind rows table w h e =
    let k : 6 + 6 * n - 6 ≡ 6 * n = omega arith in
    let l : length (take (6 * n) rows) ≡ 6 * n = length-take-le (6 * n) rows w.there in
    let x : length (numbers_by n kept typ kind rows) ≡ 6 + 6 * n = omega arith in
    rw (h, e, k) (ap (λ (q : List ℕ). numbers_by n kept typ kind rows ++ q) (drop-drop (6 * n) 6 table ∙ ap (λ (j : ℕ). drop j table) (sym x)))
