-- How the call decides, by the tests of the code. Assumes nothing.
--     by-lent   refused with all as it was lent          by-refusal, by-acceptance   the copy is made
--     copies    it can be made                           passed   what is known of the message then
use mathlib.Core.Path.{◌≡◌, refl, sym, ap, ◌∙◌}
use mathlib.Core.Bool.{Bool, true, false, cond}
use mathlib.Core.List.{List, [], ◌∷◌}
use Prim.Native.Nat.{ℕ, ◌*◌, ◌≤◌}
use native.Mathlib.Omega.{arith}
use borrow.Author.Tests.{ltb-false}
use lib.Dec.{ltb}
use lib.ListN.{length}
use Rattle.rules.specs.Sizes.{row_numbers}
use Rattle.rules.specs.Framing.{octet, message_type}
use Rattle.rules.specs.Listings.{book}
use Rattle.rules.specs.Table.{laid}
use Rattle.rules.specs.Verdicts.{refuses, first, framing_checks, lent_checks, call_verdict}
use Rattle.rules.specs.Covered.{masked, call_copy}
use Rattle.rules.specs.Answers.{reading_of, decision_of, Read, Decided}
use Rattle.rules.specs.declared.Verdict.{Verdict}
use Rattle.rules.specs.declared.Reading.{Reading}
use Rattle.rules.proofs.Header.{Passed, framed}
use Rattle.rules.proofs.Rows.{Octets}
use Rattle.masking.specs.Clearing.{cleared_rows, Masks}
use Rattle.masking.proofs.Masks.{masks, masked-is}
use Rattle.calling.specs.Calling.{lent_on, turned}
use Rattle.calling.proofs.Lent.{lent_is, call_lent, lent-passes}

module _ (k : ℕ) (m : List ℕ) {rows rows' : List ℕ} {r : Reading} (x : Read k m rows r rows') (room : ℕ) (copy : List ℕ) where
  abbrev lent : Verdict
  lent = first (lent_checks book k m (length copy) room)

  rows_are : r.rows ≡ (reading_of book k m).rows
  rows_are = ap (λ (a : Reading). a.rows) x.answers

  kept_are : r.kept ≡ (reading_of book k m).kept
  kept_are = ap (λ (a : Reading). a.kept) x.answers

  same-either : (c : Bool) (l : List ℕ) → cond c l l ≡ l
  same-either true l = refl
  same-either false l = refl

  module _ {w : Verdict} (is : w ≡ lent_on r (length m) (length copy) room) (n : true ≡ refuses (lent_on r (length m) (length copy) room)) where
    turns : refuses lent ≡ true
    turns = rw (← lent_is k m (length copy) room x) (sym n)

    verdict-lent : w ≡ call_verdict book k m (length copy) room
    verdict-lent = is ∙ lent_is k m (length copy) room x ∙ sym (call_lent k m (length copy) room ∙ rw turns)

    call_turns : refuses (call_verdict book k m (length copy) room) ≡ true
    call_turns = rw (← verdict-lent, is) (sym n)

    pub by-lent : Decided k m rows room copy (turned w r) rows' copy
    unfolding decision_of call_copy
    by-lent = record {
      answers = rw (call_turns, verdict-lent, rows_are, kept_are);
      rows_left = x.rows_left;
      copy_left = rw turns (sym (same-either (ltb (length rows) (row_numbers * (reading_of book k m).rows)) copy));
    }

  module _ (z : false ≡ refuses (lent_on r (length m) (length copy) room)) where
    lets : refuses lent ≡ false
    lets = rw (← lent_is k m (length copy) room x) (sym z)

    passes : refuses (first (framing_checks book k m)) ≡ false
    passes = (lent-passes k m (length copy) room lets).0

    pub passed : Passed book k m
    passed = (framed book k m passes).0

    module _ (octets : Octets m) (same : length rows' ≡ length rows) where
      pub copies : row_numbers * r.rows ≤ length rows' → Masks rows' m r.rows (length copy)
      copies held = masks k m x octets (omega arith) passes (length copy) (lent-passes k m (length copy) room lets).1

      module _ (v : Verdict) (e : v ≡ first (r.short ∷ r.lack ∷ [])) (copy' : List ℕ)
          (made : copy' ≡ cond (ltb (length rows') (row_numbers * r.rows)) copy (cleared_rows rows' m r.rows (laid m copy))) where
        verdict-rest : v ≡ call_verdict book k m (length copy) room
        unfolding reading_of
        verdict-rest = e ∙ rw (x.answers, passes) (sym (call_lent k m (length copy) room ∙ rw lets))

        copy_is : copy' ≡ cond (ltb (length rows) (row_numbers * (reading_of book k m).rows)) copy (call_copy book k m room copy)
        unfolding call_copy
        copy_is = made ∙ rw (same, lets) (go (ltb (length rows) (row_numbers * r.rows)) refl)
          where
            go : (c : Bool) → ltb (length rows) (row_numbers * r.rows) ≡ c
                → cond c copy (cleared_rows rows' m r.rows (laid m copy)) ≡ cond (ltb (length rows) (row_numbers * (reading_of book k m).rows)) copy (laid (masked book k m) copy)
            go true f = rw (← rows_are, f)
            go false f = rw (← rows_are, f) (masked-is k m x octets (ltb-false _ _ f) passes copy)

        pub by-refusal : true ≡ refuses (first (r.short ∷ r.lack ∷ [])) → Decided k m rows room copy (turned v r) rows' copy'
        unfolding decision_of
        by-refusal n =
            let t : refuses (call_verdict book k m (length copy) room) ≡ true = rw (← verdict-rest, e) (sym n) in
            record { answers = rw (t, verdict-rest, rows_are, kept_are); rows_left = x.rows_left; copy_left = copy_is }

        pub by-acceptance : false ≡ refuses (first (r.short ∷ r.lack ∷ [])) → Decided k m rows room copy (record { verdict = v; rows = r.rows; kept = r.kept; typ = octet m 1; kind = k }) rows' copy'
        unfolding decision_of message_type
        by-acceptance n =
            let t : refuses (call_verdict book k m (length copy) room) ≡ false = rw (← verdict-rest, e) (sym n) in
            record { answers = rw (t, verdict-rest, rows_are, kept_are); rows_left = x.rows_left; copy_left = copy_is }
