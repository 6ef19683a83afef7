-- The end of a level by the rows that a reading leaves is that by the elements that it takes, since the scratch has room for all, and zeros past them
-- are no group. Assumes nothing.
--     few-read   a reading takes at most 1,022 elements, of a message that is cut too
--     end_is     the loop over the rows finds what the definition says
use mathlib.Core.Path.{◌≡◌, refl, sym, ◌∙◌}
use mathlib.Core.Bool.{Bool, true, false, cond}
use mathlib.Core.List.{List, [], ◌∷◌, ◌++◌}
use Prim.Native.Nat.{ℕ, zero, suc, ◌+◌, ◌-◌, ◌*◌, ◌/◌, ◌≤◌, ◌<◌}
use native.Mathlib.Omega.{arith}
use native.Mathlib.Decide.{dec_lt}
use lib.ListN.{length, take, drop, get_or, replicate, length-drop}
use lib.Seq.{get_or-append-add, get_or-drop, take-suc, take_all}
use Rattle.rules.specs.Sizes.{row_numbers}
use Rattle.rules.specs.Framing.{header_length}
use Rattle.rules.specs.Types.{groups, is_group}
use Rattle.rules.specs.Listings.{book}
use Rattle.rules.specs.Standing.{Item, fresh, value_place, value_end}
use Rattle.rules.specs.Taking.{Out, cut, whole, taken, body_level, items_in, items_of}
use Rattle.rules.specs.Table.{rows_of, laid, no_item, nth}
use Rattle.rules.specs.Verdicts.{refuses, first, header_checks}
use Rattle.rules.specs.Answers.{Read, read_items, read_rows}
use Rattle.rules.specs.declared.Reading.{Reading}
use Rattle.rules.proofs.Header.{passed}
use Rattle.rules.proofs.Mets.{cut-met}
use Rattle.rules.proofs.Rows.{rows-length, quarter, header-least, few-rows}
use Rattle.verdicts.proofs.Parts.{Part, part_of, part-walk, part-walked}
use Rattle.scratch.specs.Zeros.{Zeros}
use Rattle.masking.specs.Clearing.{number}
use Rattle.masking.proofs.Rowed.{number_is}
use Rattle.refusing.specs.Levels.{holds, level_end, inner_end, end_after}

-- ---- the elements before a cut

module _ (k : ℕ) (m : List ℕ) where
  abbrev body : List ℕ
  body = drop (header_length m) m

  -- what was walked before the cut, with the elements that were taken
  pub part-taken : (q : ℕ) (is : List Item) → taken book k m ≡ cut q is → Part book k (body_level book m) fresh 0 0 (header_length m) body is q
  unfolding taken items_of
  part-taken q is e =
      let p = part_of (cut-met book k (body_level book m) (header_length m) body q is e) 0 in
      let same : cut q is ≡ cut q p.0 = sym e ∙ part-walk p.1 0 [] refl in
      let here : p.0 ≡ is = cc in
      rw here at p.1

  pub few-read : length (read_items book k m) ≤ 1022
  unfolding read_items
  few-read = go (refuses (first (header_checks book k m))) refl
    where
      some : refuses (first (header_checks book k m)) ≡ false → (o : Out (List Item)) → taken book k m ≡ o → length (items_in o) ≤ 1022
      some e (whole is) t = few-rows book k m is t (passed book k m e).most
      some e (cut q is) t =
          omega (arith, quarter (part-walked (part-taken q is t)), length-drop (header_length m) m, header-least m, (passed book k m e).most)

      go : (c : Bool) → refuses (first (header_checks book k m)) ≡ c → length (cond c [] (items_in (taken book k m))) ≤ 1022
      go true e = omega arith
      go false e = some e (taken book k m) refl

-- ---- zeros past the rows

zero-at : (c i : ℕ) → get_or (replicate {A = ℕ} c 0) i 0 ≡ 0
zero-at zero i = refl
zero-at (suc c) zero = refl
zero-at (suc c) (suc i) = zero-at c i

past : (xs : List ℕ) (c i : ℕ) → length xs ≤ i → get_or (laid xs (replicate c 0)) i 0 ≡ 0
unfolding laid
past xs c i l =
    let e : i ≡ length xs + (i - length xs) = omega arith in
    rw e (get_or-append-add xs (drop (length xs) (replicate c 0)) (i - length xs) 0 ∙ get_or-drop (length xs) (replicate c 0) (i - length xs) 0 ∙ zero-at c (length xs + (i - length xs)))

-- ---- row after row

abbrev pub end_by : Item → ℕ → ℕ → ℕ
end_by i q end = cond (holds i.typ i.stand (value_place i) (value_end i) q) (value_end i) end

end_snoc : (is : List Item) (i : Item) (q end : ℕ) → level_end (is ++ (i ∷ [])) q end ≡ end_by i q (level_end is q end)
unfolding level_end
end_snoc [] i q end = refl
end_snoc (j ∷ is) i q end = end_snoc is i q (end_by j q end)

module _ (is : List Item) (c : ℕ) (rows : List ℕ) (e : rows ≡ laid (rows_of is) (replicate c 0)) (q : ℕ) where
  row_there : (n end : ℕ) → n < length is → inner_end rows n q end ≡ end_by (nth is n) q end
  unfolding inner_end
  row_there n end l =
      let at : (j : ℕ) → j < row_numbers → number rows n j ≡ _ = λ j h. number_is is (replicate c 0) rows e n j l h in
      rw (at 1 (omega arith), at 3 (omega arith), at 4 (omega arith), at 5 (omega arith))

  row-past : (n end : ℕ) → length is ≤ n → inner_end rows n q end ≡ end
  unfolding inner_end holds is_group groups
  row-past n end l =
      let at : (j : ℕ) → number rows n j ≡ 0 = λ j. rw e (past (rows_of is) c (row_numbers * n + j) (omega (arith, rows-length is))) in
      rw (at 1, at 5)

  ends_at : (n end : ℕ) → end_after rows q end n ≡ level_end (take n is) q end
  unfolding end_after level_end
  ends_at zero end = refl
  ends_at (suc n) end = go (ends_at n end) (dec_lt n (length is))
    where
      go : end_after rows q end n ≡ level_end (take n is) q end → Dec (n < length is) → inner_end rows n q (end_after rows q end n) ≡ level_end (take (suc n) is) q end
      go h (yes l) = rw (h, take-suc is n no_item l, end_snoc (take n is) (nth is n) q end) (row_there n (level_end (take n is) q end) l)
      go h (no l) = row-past n (end_after rows q end n) (omega arith) ∙ h ∙ rw (take_all n is (omega arith), take_all (suc n) is (omega arith))

-- ---- of a reading

pub end_is : (k : ℕ) (m : List ℕ) {rows rows' : List ℕ} {r : Reading} → Zeros 6132 rows → Read k m rows r rows' → (q end : ℕ)
    → end_after rows' q end 1022 ≡ level_end (read_items book k m) q end
unfolding read_rows
end_is k m {rows} {rows'} z x q end =
    let is = read_items book k m in
    let all : take (6132 / 6) is ≡ is = take_all 1022 is (few-read k m) in
    let e : rows' ≡ laid (rows_of is) (replicate 6132 0) = x.rows_left ∙ rw (← z.size, all, z.is) in
    ends_at is 6132 rows' e q 1022 end ∙ rw (take_all 1022 is (few-read k m))
