-- The one call by its two halves: what refuses with no table asked for (1 to 9, 13) refuses here, and else it says what is said with no copy asked for (1 to 12), where
-- 1 to 9 pass then.
-- Assumes nothing.
--     call_masked, call_judged   its verdict          call-table, call-copy   what it leaves
use mathlib.Core.Path.{◌≡◌, refl, sym, ap, ◌∙◌}
use mathlib.Core.Bool.{Bool, true, false, cond}
use mathlib.Core.List.{List, [], ◌∷◌, ◌++◌, append_assoc}
use Prim.Native.Nat.{ℕ}
use lib.ListN.{length}
use Rattle.rules.specs.Framing.{message_type}
use Rattle.rules.specs.Listings.{Book}
use Rattle.rules.specs.Table.{table_of, laid}
use Rattle.rules.specs.Verdicts.{refuses, first, framing_checks, items, copy_check, room_check, table_checks, lent_checks, call_checks, call_verdict, call_table, judge_checks, mask_checks, judge_verdict, mask_verdict, judge_table}
use Rattle.rules.specs.Covered.{masked, mask_copy, call_copy}
use Rattle.rules.specs.declared.Verdict.{Verdict}
use Rattle.rules.proofs.Checks.{first_append, both-pass}

module _ (b : Book) (k : ℕ) (m : List ℕ) (octets room : ℕ) where
  -- 1 to 9 and 13, then the table's
  split : call_checks b k m octets room ≡ mask_checks b k m octets ++ table_checks b k m room
  unfolding call_checks mask_checks
  split = sym (append_assoc (framing_checks b k m) (copy_check b k m octets ∷ []) (table_checks b k m room))

  pub lent_split : lent_checks b k m octets room ≡ mask_checks b k m octets ++ (room_check b k m room ∷ [])
  unfolding lent_checks mask_checks
  lent_split = sym (append_assoc (framing_checks b k m) (copy_check b k m octets ∷ []) (room_check b k m room ∷ []))

  call_is : call_verdict b k m octets room ≡ cond (refuses (mask_verdict b k m octets)) (mask_verdict b k m octets) (first (table_checks b k m room))
  call_is = ap first split ∙ first_append (mask_checks b k m octets) (table_checks b k m room)

  pub call_masked : refuses (mask_verdict b k m octets) ≡ true → call_verdict b k m octets room ≡ mask_verdict b k m octets
  call_masked e = call_is ∙ rw e

  -- 1 to 9 pass where neither they nor 13 refuse
  framed : refuses (mask_verdict b k m octets) ≡ false → refuses (first (framing_checks b k m)) ≡ false
  unfolding mask_checks
  framed e = (both-pass (framing_checks b k m) (copy_check b k m octets ∷ []) e).0

  pub call_judged : refuses (mask_verdict b k m octets) ≡ false → call_verdict b k m octets room ≡ judge_verdict b k m room
  unfolding judge_checks
  call_judged e =
      let j : judge_verdict b k m room ≡ first (table_checks b k m room) = first_append (framing_checks b k m) (table_checks b k m room) ∙ rw (framed e) in
      call_is ∙ rw e (sym j)

-- what it leaves in a table: what is left with no copy asked for, unless 1 to 9 or 13 refuse
module _ (b : Book) (k : ℕ) (m : List ℕ) (octets : ℕ) (table : List ℕ) where
  -- by the verdict
  abbrev leaves : Verdict → List ℕ
  leaves v = cond (refuses v) table (laid (table_of (message_type m) k (items b k m)) table)

  pub table_stays : refuses (mask_verdict b k m octets) ≡ true → call_table b k m octets table ≡ table
  unfolding call_table
  table_stays e = ap leaves (call_masked b k m octets (length table) e) ∙ rw e

  pub call-table : refuses (mask_verdict b k m octets) ≡ false → call_table b k m octets table ≡ judge_table b k m table
  unfolding call_table judge_table
  call-table e = ap leaves (call_judged b k m octets (length table) e)

-- and in a copy: what is left with no table asked for, unless the table is too short for the rows
module _ (b : Book) (k : ℕ) (m : List ℕ) (room : ℕ) (copy : List ℕ) where
  abbrev mask : Verdict
  mask = mask_verdict b k m (length copy)

  lent_is : first (lent_checks b k m (length copy) room) ≡ cond (refuses (mask_verdict b k m (length copy))) (mask_verdict b k m (length copy)) (first (room_check b k m room ∷ []))
  lent_is = ap first (lent_split b k m (length copy) room) ∙ first_append (mask_checks b k m (length copy)) (room_check b k m room ∷ [])

  -- by the first of 1 to 9, 13 and 10
  abbrev after : Verdict → List ℕ
  after v = cond (refuses v) copy (laid (masked b k m) copy)

  copy_is : call_copy b k m room copy ≡ after (cond (refuses (mask_verdict b k m (length copy))) (mask_verdict b k m (length copy)) (first (room_check b k m room ∷ [])))
  unfolding call_copy
  copy_is = ap after lent_is

  pub copy-stays : refuses (room_check b k m room) ≡ true → call_copy b k m room copy ≡ copy
  unfolding first
  copy-stays e = copy_is ∙ go (refuses mask) refl
    where
      go : (c : Bool) → refuses (mask_verdict b k m (length copy)) ≡ c
          → after (cond (refuses (mask_verdict b k m (length copy))) (mask_verdict b k m (length copy)) (first (room_check b k m room ∷ []))) ≡ copy
      go true f = rw (f, f)
      go false f = rw (f, e, e)

  pub call-copy : refuses (room_check b k m room) ≡ false → call_copy b k m room copy ≡ mask_copy b k m copy
  unfolding mask_copy first
  call-copy e = copy_is ∙ go (refuses mask) refl
    where
      go : (c : Bool) → refuses (mask_verdict b k m (length copy)) ≡ c
          → after (cond (refuses (mask_verdict b k m (length copy))) (mask_verdict b k m (length copy)) (first (room_check b k m room ∷ [])))
          ≡ cond (refuses (mask_verdict b k m (length copy))) copy (laid (masked b k m) copy)
      go true f = rw (f, f)
      go false f = rw (f, e)
