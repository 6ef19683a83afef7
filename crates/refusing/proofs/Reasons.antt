-- Which of its two reasons 9 had, in the words that say what a cut is (`IsCut`): the level that goes on at its place has fewer than four octets left, or not.
-- The innermost group around the place is that level, since groups that were left have ended before it. Assumes nothing.
--     part_end         the end of the level by the elements before the cut is where the level ends
--     reason_exactly   so the reason is told right
use mathlib.Core.Path.{◌≡◌, refl, sym, ap, ◌∙◌}
use mathlib.Core.Logic.{◌↔◌}
use mathlib.Core.Bool.{Bool, true, false, cond, ◌&&◌}
use mathlib.Core.List.{List, [], ◌∷◌, ◌++◌, append-nil}
use Prim.Native.Nat.{ℕ, ◌+◌, ◌≤◌, ◌<◌}
use native.Mathlib.Omega.{arith}
use borrow.Author.Tests.{eq-eqb, le-leb, lt-ltb, le-ltb, ltb-true}
use lib.Dec.{ltb}
use lib.ListN.{length, take, drop, length-drop}
use Rattle.rules.specs.Framing.{element_header, message_type, header_length}
use Rattle.rules.specs.Listings.{book}
use Rattle.rules.specs.Standing.{Item, item_of, standing, value_place, value_end}
use Rattle.rules.specs.Taking.{cut, taken}
use Rattle.rules.specs.Table.{table_of}
use Rattle.rules.specs.Verdicts.{invalid_length, refused_at, header_checks, judge_verdict}
use Rattle.rules.specs.Answers.{read_items}
use Rattle.rules.proofs.Book.{book-sound}
use Rattle.rules.proofs.Checks.{all_pass}
use Rattle.rules.proofs.Covers.{group_type}
use Rattle.rules.proofs.Header.{Passed}
use Rattle.rules.proofs.Heads.{fits, rest-length, value-length}
use Rattle.rules.proofs.Places.{Ranged, ranged}
use Rattle.rules.proofs.Rows.{Every, every_map}
use Rattle.rules.proofs.Standings.{entered-kept}
use Rattle.tables.specs.Words.{level_to}
use Rattle.tables.proofs.Rowed.{own-begins, own_of}
use Rattle.verdicts.specs.IsCut.{CutHere, IsCut}
use Rattle.verdicts.proofs.Accepting.{pass-header}
use Rattle.verdicts.proofs.CutPlace.{nine-at}
use Rattle.verdicts.proofs.CutRebuilding.{is_cut}
use Rattle.verdicts.proofs.CutSoundness.{cut_level, cut-rows}
use Rattle.verdicts.proofs.Cutting.{cut_in}
use Rattle.verdicts.proofs.Parts.{Part, here, later, within, behind, left_of, part_range}
use Rattle.columns.specs.Values.{entered}
use Rattle.refusing.specs.Levels.{holds, level_end, reason_of}
use Rattle.refusing.proofs.Ends.{end_by, part-taken}

-- ---- elements that have ended, and one that has not

and-false : (a : Bool) → a && false ≡ false
and-false true = refl
and-false false = refl

ended : (i : Item) (q end : ℕ) → value_end i ≤ q → end_by i q end ≡ end
unfolding holds
ended i q end l = rw (le-ltb q (value_end i) l, and-false)

around : (i : Item) (q end : ℕ) → entered i.typ i.stand ≡ true → value_place i ≤ q → q < value_end i → end_by i q end ≡ value_end i
unfolding holds
around i q end e a c = rw (e, le-leb (value_place i) q a, lt-ltb q (value_end i) c)

all-ended : (is : List Item) (q end : ℕ) → Every (λ i. value_end i ≤ q) is → level_end is q end ≡ end
unfolding level_end Every
all-ended [] q end e = refl
all-ended (i ∷ is) q end e = rw (ended i q end e.0) (all-ended is q end e.1)

end-both : (is js : List Item) (q end : ℕ) → level_end (is ++ js) q end ≡ level_end js q (level_end is q end)
unfolding level_end
end-both [] js q end = refl
end-both (i ∷ is) js q end = end-both is js q (end_by i q end)

-- ---- where the walk stops

part_end : {k v : ℕ} {ms : List ℕ} {p n at : ℕ} {xs : List ℕ} {es : List Item} {q : ℕ} (d : Part book k v ms p n at xs es q) → level_end es q (at + length xs) ≡ q + left_of d
unfolding level_end left_of item_of
part_end (here pos w) = refl
part_end {k} {q = q} (later {v = v} {m = ms} {p = p} {at = at} {xs = xs} {es = es} h a e t) =
    let i = item_of book k v ms p at h in
    let same : at + length xs ≡ at + element_header + h.len + length (drop (element_header + h.len) xs) = omega (arith, rest-length xs h.len (fits a)) in
    ap (level_end es q) (ended i q (at + length xs) (part_range t).0 ∙ same) ∙ part_end t
part_end {k} {q = q} (within {v = v} {m = ms} {p = p} {at = at} {xs = xs} {is = is} h g a e t) =
    let i = item_of book k v ms p at h in
    let inner : entered h.typ (standing book k v ms h) ≡ true = rw (eq-eqb _ _ (entered-kept book k v ms h (omega (arith, e)))) (group_type book book-sound k v ms h g e) in
    let long = value-length xs h.len (fits a) in
    let same : at + element_header + h.len ≡ at + element_header + length (take h.len (drop element_header xs)) = omega (arith, long) in
    ap (λ (js : List Item). level_end js q (end_by i q (at + length xs))) (append-nil is)
    ∙ ap (level_end is q) (around i q (at + length xs) inner (part_range t).0 (omega (arith, (part_range t).1, long)) ∙ same) ∙ part_end t
part_end {k} {q = q} (behind {v = v} {m = ms} {p = p} {n = n} {at = at} {xs = xs} {is = is} {es = es} h g a e d t) =
    let i = item_of book k v ms p at h in
    let past : Every (λ j. value_end j ≤ q) is
    = every_map (Ranged (n + 1) (n + 1) (at + element_header) (at + element_header + length (take h.len (drop element_header xs))) (n + 1 + length is)) (λ j. value_end j ≤ q) is
    (λ j r. omega (arith, r.finishes, (part_range t).0, value-length xs h.len (fits a))) (ranged d (omega arith)) in
    let same : at + length xs ≡ at + element_header + h.len + length (drop (element_header + h.len) xs) = omega (arith, rest-length xs h.len (fits a)) in
    end-both is es q (end_by i q (at + length xs))
    ∙ ap (level_end es q) (all-ended is q (end_by i q (at + length xs)) past ∙ ended i q (at + length xs) (part_range t).0 ∙ same) ∙ part_end t

-- ---- of a message

one_iff : (a c : ℕ) → (◌≡◌ {A = ℕ} (cond (ltb a c) 1 0) 1) ↔ (a < c)
one_iff a c = (to (ltb a c) refl, λ l. rw (lt-ltb a c l))
  where
    to : (x : Bool) → ltb a c ≡ x → ◌≡◌ {A = ℕ} (cond x 1 0) 1 → a < c
    to true e f = ltb-true a c e
    to false e f = absurd (omega arith)

-- the level that goes on where 9 cuts the message, and that the reason is 1 exactly where fewer than four octets are left of it
pub record Reasoned (k : ℕ) (m t : List ℕ) (q p reason : ℕ) : Type 0 where
  pub is_cut : IsCut book k m t q
  pub level : CutHere m t q p
  pub few_left : (reason ≡ 1) ↔ (level_to m t p < q + element_header)

module _ (k : ℕ) (m : List ℕ) where
  items-read : Passed book k m → (q : ℕ) (is : List Item) → taken book k m ≡ cut q is → read_items book k m ≡ is
  unfolding read_items
  items-read p q is e = rw ((all_pass (header_checks book k m)).1 (pass-header book k m p), e)

  pub reason_exactly : (room q : ℕ) → judge_verdict book k m room ≡ refused_at 9 invalid_length q 0 0
      → (t : List ℕ) × ((p : ℕ) × Reasoned k m t q p (reason_of k m (refused_at 9 invalid_length q 0 0)))
  unfolding reason_of
  reason_exactly room q e =
      let nine = (nine-at book book-sound k m room q).0 e in
      let passes = nine.0 in
      let c = cut_in book book-sound k m q (is_cut book book-sound k m nine.1.0 q nine.1.1) in
      let is = c.0 in
      let d = part-taken k m q is c.1 in
      let t = table_of (message_type m) k is in
      let u = cut_level book book-sound k m t is (own-begins (message_type m) k is) q d passes.has_header passes.listed in
      let whole : header_length m + length (drop (header_length m) m) ≡ length m = omega (arith, length-drop (header_length m) m, passes.has_header) in
      let end : level_end (read_items book k m) q (length m) ≡ level_to m t u.0 = rw (items-read passes q is c.1, ← whole) (part_end d) ∙ sym u.2 in (
        t,
        (
          u.0,
          record {
            is_cut = cut-rows book book-sound k m t is (own-begins (message_type m) k is) q d passes.has_header passes.listed (own_of k m is);
            level = u.1;
            few_left = rw end (one_iff (level_to m t u.0) (q + element_header));
          },
        ),
      )
