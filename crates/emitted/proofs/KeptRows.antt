-- Row by row: a kept row of the message is the row of the cleaned copy whose number is that of the kept rows before it. Assumes nothing.
--     KeptAs       how the two rows agree
--     row-kept_as  the law                          clean-count   and there are no other rows in the copy
use mathlib.Core.Path.{◌≡◌, refl, sym, ap, ◌∙◌}
use mathlib.Core.Bool.{Bool, true, false, cond}
use mathlib.Core.List.{List, [], ◌∷◌}
use Prim.Native.Nat.{ℕ, zero, suc, ◌+◌, ◌<◌}
use native.Mathlib.Omega.{arith}
use native.Mathlib.Nat.{add-zero}
use borrow.Author.Tests.{eq-eqb}
use lib.Dec.{eqb}
use lib.ListN.{length, take, drop, get_or}
use lib.Seq.{take-length}
use Rattle.rules.specs.Framing.{octet}
use Rattle.rules.specs.Types.{is_group}
use Rattle.rules.specs.Listings.{Book}
use Rattle.rules.specs.Standing.{Item, kept, value_place}
use Rattle.rules.specs.Table.{kept_rows, nth}
use Rattle.rules.specs.Verdicts.{refuses, items}
use Rattle.rules.specs.Emitting.{Piece, stays, remaining, amply}
use Rattle.rules.specs.Cleaned.{received, pieces, cleaned, renumbered}
use Rattle.rules.specs.Sound.{sound}
use Rattle.emitted.proofs.Again.{Counts, pieces-length}
use Rattle.emitted.proofs.Runs.{Kin, nobody, gone, both, Stands, kin-count}
use Rattle.emitted.proofs.Cleaning.{counts-from, none_before, clean-rows, clean-kin}

-- ---- row r of the one run, and row q of the other

kin-at : {anew : ℕ → ℕ} {n : ℕ} {es fs : List Item} → Kin anew n es fs → (r : ℕ) → r < length es → (nth es r).stand ≡ kept
    → (q : ℕ) × (anew (n + r) ≡ anew n + q) × (q < length fs) × Stands anew (nth es r) (nth fs q)
kin-at nobody r l s = absurd (omega arith)
kin-at (gone {n = n} i e c d) zero l s = absurd (unkept i e s)
  where
    unkept : (i : Item) → eqb i.stand kept ≡ false → i.stand ≡ kept → ⊥
    unkept i e s = let t = eq-eqb i.stand kept s in let z : ◌≡◌ {A = ℕ} 0 1 = cc in omega arith
kin-at {anew} (gone {n = n} i e c d) (suc r) l s =
    let x = kin-at d r (omega arith) s in
    let w : n + suc r ≡ n + 1 + r = omega arith in
    (x.0, rw w (x.1 ∙ rw c), x.2, x.3)
kin-at {anew} (both {n = n} i j e c d) zero l s = let w : n + 0 ≡ n = add-zero n in (0, rw w (sym (add-zero (anew n))), omega arith, e)
kin-at {anew} (both {n = n} i j e c d) (suc r) l s =
    let x = kin-at d r (omega arith) s in
    let w : n + suc r ≡ n + 1 + r = omega arith in
    (suc x.0, rw w (omega (arith, x.1, c)), omega (arith, x.2), x.3)

-- ---- and what is written of them

abbrev pub nobodys : Piece
nobodys = record { parent = 0; typ = 0; fourth = 0; stand = 0; value = [] }

pub pieces-at : (w : List ℕ) (is : List Item) (r : ℕ) → r < length is → get_or (pieces w is) r nobodys ≡ received w (nth is r)
unfolding pieces
pieces-at w [] r l = absurd (omega arith)
pieces-at w (i ∷ is) zero l = refl
pieces-at w (i ∷ is) (suc r) l = pieces-at w is r (omega arith)

-- how many rows before r stay
before : List Piece → ℕ → ℕ
before [] r = 0
before (x ∷ xs) zero = 0
before (x ∷ xs) (suc r) = cond (stays x) (suc (before xs r)) (before xs r)

-- that is the number by which a row that stays is found again, but for its parent's
abbrev renamed : (ℕ → ℕ) → Piece → Piece
renamed anew x = record { parent = anew x.parent; typ = x.typ; fourth = x.fourth; stand = x.stand; value = x.value }

row_at : (anew : ℕ → ℕ) (ps : List Piece) (r : ℕ) → r < length ps → stays (get_or ps r nobodys) ≡ true
    → get_or (remaining anew ps) (before ps r) nobodys ≡ renamed anew (get_or ps r nobodys)
unfolding remaining before
row_at anew [] r l s = absurd (omega arith)
row_at anew (x ∷ ps) zero l s = rw s
row_at anew (x ∷ ps) (suc r) l s = go (stays x) (row_at anew ps r (omega arith) s)
  where
    go : (y : Bool) → get_or (remaining anew ps) (before ps r) nobodys ≡ renamed anew (get_or ps r nobodys)
        → get_or (cond y (renamed anew x ∷ remaining anew ps) (remaining anew ps)) (cond y (suc (before ps r)) (before ps r)) nobodys ≡ renamed anew (get_or ps r nobodys)
    go true e = e
    go false e = e

counts-before : (anew : ℕ → ℕ) (n : ℕ) (ps : List Piece) → Counts anew n ps → (r : ℕ) → r < length ps → anew (n + r) ≡ anew n + before ps r
unfolding Counts before
counts-before anew n [] c r l = absurd (omega arith)
counts-before anew n (x ∷ ps) c zero l = let w : n + 0 ≡ n = add-zero n in rw w (sym (add-zero (anew n)))
counts-before anew n (x ∷ ps) c (suc r) l = go (stays x) c.0 (counts-before anew (n + 1) ps c.1 r (omega arith))
  where
    w : n + suc r ≡ n + 1 + r
    w = omega arith

    go : (y : Bool) → anew (n + 1) ≡ anew n + cond y 1 0 → anew (n + 1 + r) ≡ anew (n + 1) + before ps r → anew (n + suc r) ≡ anew n + cond y (suc (before ps r)) (before ps r)
    go true e f = rw w (omega (arith, e, f))
    go false e f = rw w (omega (arith, e, f))

-- ---- the cleaned copy

-- row q of the rows fs, in the octets c, is the kept row r of the rows es, in the octets m
pub record KeptAs (m : List ℕ) (es : List Item) (c : List ℕ) (fs : List Item) (r q : ℕ) : Type 0 where
  pub there : q < length fs
  pub stand : (nth fs q).stand ≡ kept
  pub parent : (nth fs q).parent ≡ kept_rows (take (nth es r).parent es)
  pub typ : (nth fs q).typ ≡ (nth es r).typ
  pub inst : (nth fs q).inst ≡ (nth es r).inst
  pub fourth : octet c ((nth fs q).place + 3) ≡ octet m ((nth es r).place + 3)
  pub value : is_group (nth es r).typ ≡ false → take (nth fs q).len (drop (value_place (nth fs q)) c) ≡ take (nth es r).len (drop (value_place (nth es r)) m)

module _ (b : Book) (fine : sound b ≡ true) (k : ℕ) (m : List ℕ) (ok : refuses (amply b k m) ≡ false) where
  abbrev es : List Item
  es = items b k m

  abbrev fs : List Item
  fs = items b k (cleaned b k m)

  pub clean-count : length fs ≡ kept_rows es
  clean-count =
      let e : 0 + length es ≡ length es = omega arith in
      let n : renumbered es (length es) ≡ renumbered es 0 + length fs = rw e at (kin-count (clean-kin b fine k m ok)) in
      omega (arith, n, ap kept_rows (take-length es), none_before es)

  pub row-kept_as : (r : ℕ) → r < length es → (nth es r).stand ≡ kept → KeptAs m es (cleaned b k m) fs r (kept_rows (take r es))
  unfolding received
  row-kept_as r l s =
      let x = kin-at (clean-kin b fine k m ok) r l s in
      let z : 0 + r ≡ r = omega arith in
      let n : renumbered es r ≡ renumbered es 0 + x.0 = rw z at x.1 in
      let e : x.0 ≡ kept_rows (take r es) = omega (arith, n, none_before es) in
      let stay : stays (get_or (pieces m es) r nobodys) ≡ true = rw (pieces-at m es r l) (eq-eqb (nth es r).stand kept s) in
      let size = pieces-length m es in
      let y : renumbered es r ≡ renumbered es 0 + before (pieces m es) r = rw z at (counts-before (renumbered es) 0 (pieces m es) (counts-from m [] es) r (omega (arith, l, size))) in
      let p : before (pieces m es) r ≡ x.0 = omega (arith, n, y) in
      let at = row_at (renumbered es) (pieces m es) r (omega (arith, l, size)) stay in
      let there : received (cleaned b k m) (nth fs x.0) ≡ get_or (remaining (renumbered es) (pieces m es)) (before (pieces m es) r) nobodys =
      sym (pieces-at (cleaned b k m) fs x.0 x.2)
      ∙ ap (λ (ys : List Piece). get_or ys x.0 nobodys) (clean-rows b fine k m ok)
      ∙ ap (λ (q : ℕ). get_or (remaining (renumbered es) (pieces m es)) q nobodys) (sym p) in
      let v : (received (cleaned b k m) (nth fs x.0)).value ≡ (received m (nth es r)).value =
      ap (λ (y : Piece). y.value) (there ∙ at) ∙ ap (λ (y : Piece). y.value) (pieces-at m es r l) in
      let o : (received (cleaned b k m) (nth fs x.0)).fourth ≡ (received m (nth es r)).fourth =
      ap (λ (y : Piece). y.fourth) (there ∙ at) ∙ ap (λ (y : Piece). y.fourth) (pieces-at m es r l) in
      let found : KeptAs m es (cleaned b k m) fs r x.0 = record {
        there = x.2;
        stand = x.3.kept_j;
        parent = x.3.parent;
        typ = x.3.typ;
        inst = x.3.inst;
        fourth = o;
        value = λ g. rw (x.3.typ, g) at v;
      } in
      rw e at found
