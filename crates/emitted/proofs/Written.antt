-- What the header of a message that is written says; and rows with their numbers anew emit the same octets. Assumes nothing.
--     passes        a message that passes tests 1 to 8 is refused by none of them
--     written-body  what follows the header                  written-length   the length field is right
--     renumber      rows with their parents numbered anew, and without those set aside, emit the same
use mathlib.Core.Path.{◌≡◌, refl, sym, ap, ◌∙◌}
use mathlib.Core.Bool.{Bool, true, false, beq}
use mathlib.Core.List.{List, [], ◌∷◌, ◌++◌}
use Prim.Native.Nat.{ℕ, ◌+◌, ◌/◌, ◌%◌}
use native.Mathlib.Omega.{arith}
use native.Mathlib.Nat.{add-zero, div-add-mod'}
use borrow.Author.Tests.{eq-eqb, ne_eqb, le-ltb}
use lib.ListN.{length, take, drop, length-append}
use lib.Seq.{drop-append_seam, take-append_seam, drop-append-add}
use Rattle.rules.specs.Sizes.{largest_message}
use Rattle.rules.specs.Framing.{message_type, length_field, header_length}
use Rattle.rules.specs.Types.{is_group}
use Rattle.rules.specs.Listings.{Book, message_of}
use Rattle.rules.specs.Verdicts.{refused, check, refuses, header_checks}
use Rattle.rules.specs.declared.Verdict.{Verdict}
use Rattle.rules.proofs.Checks.{AllPass, check-off}
use Rattle.rules.proofs.Header.{Passed}
use Rattle.rules.specs.Emitting.{Piece, stays, remaining, written}
use Rattle.emitted.proofs.Forests.{Forest, none, aside, leaf, node, element, grown}
use Rattle.emitted.proofs.Again.{Counts, counts-split, counts_end, remaining_append, remaining_in, remaining-out, remaining_nil}

-- ---- the header

pub written-octets : (o t : ℕ) (rest body : List ℕ) → length (written o t rest body) ≡ 4 + length rest + length body
written-octets o t rest body = omega (arith, length-append rest body)

pub written-length : (o t : ℕ) (rest body : List ℕ) → length_field (written o t rest body) + 4 ≡ length (written o t rest body)
unfolding length_field
written-length o t rest body = omega (arith, div-add-mod' (length rest + length body) 256, written-octets o t rest body)

pub written-body : (o t : ℕ) (rest body : List ℕ) → drop (4 + length rest) (written o t rest body) ≡ body
written-body o t rest body = drop-append-add (o ∷ t ∷ (length rest + length body) / 256 ∷ (length rest + length body) % 256 ∷ []) (rest ++ body) (length rest) ∙ drop-append_seam rest body

pub written-rest : (o t : ℕ) (rest body : List ℕ) → take (length rest) (drop 4 (written o t rest body)) ≡ rest
written-rest o t rest body = take-append_seam rest body

same-beq : (a : Bool) → beq a a ≡ true
same-beq true = refl
same-beq false = refl

un_check : (a : Bool) (v : Verdict) → refuses v ≡ true → a ≡ false → refuses (check a v) ≡ false
un_check a v r e = check-off a v r ∙ e

pub passes : (b : Book) (k : ℕ) (m : List ℕ) → Passed b k m → AllPass (header_checks b k m)
unfolding header_checks AllPass
passes b k m p = (
  un_check _ (refused 1 0) refl (rw p.kind),
  (
    un_check _ (refused 2 0) refl (rw (ne_eqb (length m) 0 (λ z. omega (arith, p.some)), le-ltb largest_message (length m) p.most)),
    (
      un_check _ (refused 3 0) refl (rw p.version_2),
      (
        un_check _ (refused 4 0) refl (le-ltb (length m) (header_length m) p.has_header),
        (
          un_check _ (refused 5 0) refl p.no_p,
          (
            un_check _ (refused 6 67) refl (rw (eq-eqb (length_field m + 4) (length m) p.length_right)),
            (
              un_check _ (refused 7 0) refl (rw p.listed),
              (un_check _ (refused 21 0) refl (rw p.on_kind), (un_check _ (refused 8 0) refl (rw (p.t_right, same-beq (message_of b (message_type m)).teid)), tt)),
            ),
          ),
        ),
      ),
    ),
  ),
)

-- ---- numbers anew

module _ (anew : ℕ → ℕ) where
  pub record Renumbered (p n : ℕ) (ps : List Piece) (xs : List ℕ) : Type 0 where
    pub rows : List Piece
    pub rows_are : rows ≡ remaining anew ps
    pub forest : Forest (anew p) (anew n) rows
    pub grows_it : grown forest ≡ xs

  abbrev moved : Piece → Piece
  moved x = record { parent = anew x.parent; typ = x.typ; fourth = x.fourth; stand = x.stand; value = x.value }

  two-parts : (x : Piece) (is is' ps ps' : List Piece) → is ≡ is' → ps ≡ ps' → x ∷ (is ++ ps) ≡ x ∷ (is' ++ ps')
  two-parts x is is' ps ps' a c = rw (a, c)

  node-octets : (t f : ℕ) (ys ys' zs zs' : List ℕ) → ys ≡ ys' → zs ≡ zs' → element t f ys ++ zs ≡ element t f ys' ++ zs'
  node-octets t f ys ys' zs zs' a c = rw (a, c)

  -- the forest with its numbers put right, and what it grows
  refit : {p n p' n' : ℕ} {rows : List Piece} (xs : List ℕ) (f : Forest p n rows) → grown f ≡ xs → p ≡ p' → n ≡ n' → (g : Forest p' n' rows) × (grown g ≡ xs)
  refit {p} {n} {p'} {n'} {rows} xs f e a c =
      let q : (g : Forest p n rows) × (grown g ≡ xs) = (f, e) in
      rw (a, c) at q

  aside_too : (p n : ℕ) (x : Piece) (ps : List Piece) (xs : List ℕ) → stays x ≡ false → anew (n + 1) ≡ anew n → Renumbered p (n + 1) ps xs → Renumbered p n (x ∷ ps) xs
  aside_too p n x ps xs s same r =
      let f = refit xs r.forest r.grows_it refl same in
      record { rows = r.rows; rows_are = r.rows_are ∙ sym (remaining-out anew x ps s); forest = f.0; grows_it = f.1 }

  leaf_too : (p n : ℕ) (x : Piece) (ps : List Piece) (zs : List ℕ) → stays x ≡ true → x.parent ≡ p → is_group x.typ ≡ false → anew (n + 1) ≡ anew n + 1
      → Renumbered p (n + 1) ps zs → Renumbered p n (x ∷ ps) (element x.typ x.fourth x.value ++ zs)
  unfolding grown
  leaf_too p n x ps zs s e g next r =
      let f = refit zs r.forest r.grows_it refl next in
      record {
        rows = moved x ∷ r.rows;
        rows_are = ap (λ (qs : List Piece). moved x ∷ qs) r.rows_are ∙ sym (remaining_in anew x ps s);
        forest = leaf (moved x) s (ap anew e) g f.0;
        grows_it = node-octets x.typ x.fourth x.value x.value (grown f.0) zs refl f.1;
      }

  node_too : (p n : ℕ) (x : Piece) (is ps : List Piece) (ys zs : List ℕ) → stays x ≡ true → x.parent ≡ p → is_group x.typ ≡ true → x.value ≡ [] → anew (n + 1) ≡ anew n + 1
      → anew (n + 1 + length is) ≡ anew (n + 1) + length (remaining anew is)
      → Renumbered (n + 1) (n + 1) is ys → Renumbered p (n + 1 + length is) ps zs → Renumbered p n (x ∷ (is ++ ps)) (element x.typ x.fourth ys ++ zs)
  unfolding grown
  node_too p n x is ps ys zs s e g u next count d r =
      let i = refit ys d.forest d.grows_it next next in
      let f = refit {n' = anew n + 1 + length d.rows} zs r.forest r.grows_it refl (omega (arith, count, next, ap length d.rows_are)) in
      record {
        rows = moved x ∷ (d.rows ++ r.rows);
        rows_are = two-parts (moved x) d.rows (remaining anew is) r.rows (remaining anew ps) d.rows_are r.rows_are
            ∙ ap (λ (qs : List Piece). moved x ∷ qs) (sym (remaining_append anew is ps)) ∙ sym (remaining_in anew x (is ++ ps) s);
        forest = node (moved x) s (ap anew e) g u i.0 f.0;
        grows_it = node-octets x.typ x.fourth (grown i.0) ys (grown f.0) zs i.1 f.1;
      }

  pub renumber : {p n : ℕ} {ps : List Piece} (f : Forest p n ps) → Counts anew n ps → Renumbered p n ps (grown f)
  unfolding grown Counts
  renumber none c = record { rows = []; rows_are = sym (remaining_nil anew); forest = none; grows_it = refl }
  renumber (aside {p = p} {n = n} {ps = ps} x s e t) c =
      let same : anew (n + 1) ≡ anew n = c.0 ∙ rw s (add-zero (anew n)) in
      let r = renumber t c.1 in
      aside_too p n x ps (grown t) s same r
  renumber (leaf {p = p} {n = n} {ps = ps} x s e g t) c = leaf_too p n x ps (grown t) s e g (c.0 ∙ rw s) (renumber t c.1)
  renumber (node {p = p} {n = n} {is = is} {ps = ps} x s e g u d t) c =
      let cs = counts-split anew (n + 1) is ps c.1 in
      node_too p n x is ps (grown d) (grown t) s e g u (c.0 ∙ rw s) (counts_end anew (n + 1) is cs.0) (renumber d cs.0) (renumber t cs.1)
