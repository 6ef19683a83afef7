-- What is put is what the exports answer and leave. Assumes nothing.
use mathlib.Core.Path.{◌≡◌, subst}
use mathlib.Core.List.{List}
use Prim.Native.Nat.{ℕ}
use Rattle.wording.specs.Puts.{Puts}
use Rattle.wording.proofs.Puts.{puts-start, puts-same}
use Rattle.showing.specs.Showing.{page_on}
use Rattle.wokdesk.specs.Names.{names}
use Rattle.wokdesk.specs.Pages.{view_of, page_for, Paged, name_for, Called}

pub paged : (table m out : List ℕ) (k right full : ℕ) {r : ℕ} {out' : List ℕ} → table ≡ names → Puts (page_on table (view_of k right full) m) 0 out r out'
    → Paged k right full m out r out'
unfolding page_for
paged table m out k right full {r} {out'} e p =
    let q : Puts (page_for k right full m) 0 out r out' = subst (λ t. Puts (page_on t (view_of k right full) m) 0 out r out') e p in
    let s = puts-same q (puts-start (page_for k right full m) out) in record { answers = s.0; page_left = s.1 }

pub called : (what n : ℕ) (out : List ℕ) {r : ℕ} {out' : List ℕ} → Puts (name_for what n) 0 out r out' → Called what n out r out'
called what n out p = let s = puts-same p (puts-start (name_for what n) out) in record { answers = s.0; name_left = s.1 }
