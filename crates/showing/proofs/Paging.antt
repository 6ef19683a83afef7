-- The page by the call's verdict, by way of a copy in its room, and cut. Assumes nothing.
use mathlib.Core.Path.{◌≡◌, refl, sym, ap, ◌∙◌}
use mathlib.Core.Bool.{Bool, true, false}
use mathlib.Core.List.{List, ◌∷◌}
use Prim.Native.Nat.{ℕ, zero, suc, ◌≤◌, min}
use native.Mathlib.Omega.{arith}
use lib.ListN.{length, take, replicate, length-take}
use Rattle.std.proofs.lemmas.List.{take_min}
use Rattle.std.proofs.Math.Nat.{min-le_left, min-le_right, min_comm}
use Rattle.rules.specs.Sizes.{most_rows, used}
use Rattle.rules.specs.Types.{among}
use Rattle.rules.specs.Listings.{book}
use Rattle.rules.specs.Verdicts.{refuses, first, framing_checks}
use Rattle.rules.specs.declared.Verdict.{Verdict}
use Rattle.rules.proofs.Book.{book-sound}
use Rattle.rules.proofs.Readings.{few, count_is}
use Rattle.tables.specs.Words.{rows}
use Rattle.tables.specs.IsTable.{IsTable}
use Rattle.verdicts.specs.Conditions.{copying_numbers}
use Rattle.verdicts.proofs.Calling.{framing-passes, tabled, call_framing, fits, copies_iff}
use Rattle.wording.specs.declared.Sheet.{Sheet}
use Rattle.wording.specs.Sheets.{Writes}
use Rattle.columns.specs.declared.View.{View}
use Rattle.refusing.specs.Refused.{refused_page}
use Rattle.showing.specs.Showing.{read_page, page, page_of, page_on, Listed}

pub front-room : (n c : ℕ) → n ≤ c → take n (replicate {A = ℕ} c 0) ≡ replicate n 0
front-room zero c l = refl
front-room (suc n) zero l = absurd (omega arith)
front-room (suc n) (suc c) l = ap (0 ∷◌) (front-room n c (omega arith))

-- ---- by the call's verdict: with room for every row, and a copy of zeros as long as the message, it makes a copy exactly where 1 to 9 pass

module _ (names : List ℕ) (w : View) (m : List ℕ) {v : Verdict} {table copy : List ℕ} (x : Listed w.kind m v table copy) where
  abbrev k : ℕ
  k = w.kind

  abbrev framing : Verdict
  framing = first (framing_checks book k m)

  room : (t : List ℕ) → IsTable book k m t → refuses framing ≡ false → used (rows t) ≤ used most_rows
  room t y e = omega (arith, fits book book-sound k m (length m) (used most_rows) t y, count_is book k m e, few book k m)

  passed : among v.code copying_numbers ≡ true → refuses framing ≡ false
  passed c =
      let h = (copies_iff book book-sound k m (length m) (used most_rows)).0 (rw x.answers at c) in
      framing-passes book book-sound k m (h.1.0, (h.1.1.0, h.1.1.1))

  framed_out : among v.code copying_numbers ≡ false → refuses framing ≡ true
  framed_out c = go (refuses framing) refl
    where
      go : (a : Bool) → refuses framing ≡ a → a ≡ true
      go true e = refl
      go false e =
          let t = tabled book book-sound k m e in
          let h = (copies_iff book book-sound k m (length m) (used most_rows)).1 (omega arith, (t.0, (t.1.0, t.1.1, room t.1.0 t.1.1 e))) in
          let z : false ≡ true = sym c ∙ rw x.answers h in
          let y : ◌≡◌ {A = ℕ} 0 1 = cc in
          absurd (omega arith)

  module _ {s t : Sheet} where
    pub page-refused : among v.code copying_numbers ≡ false → Writes (refused_page names w v m) s t → Writes (page_of names w m) s t
    unfolding page_of page
    page-refused c p =
        let e = framed_out c in
        let z : v ≡ framing = x.answers ∙ call_framing book book-sound k m (length m) (used most_rows) e in
        rw e (rw z at p)

    pub page-read : among v.code copying_numbers ≡ true → Writes (read_page names w v table m copy) s t → Writes (page_of names w m) s t
    unfolding page_of page
    page-read c p = let e = passed c in rw (e, ← x.answers, ← x.listed e, ← x.copied) p

-- ---- of a message its first 4,097 octets

pub counted_only : (names : List ℕ) (w : View) (m : List ℕ) {n : ℕ} {s t : Sheet} → n ≡ min (length m) 4097 → Writes (page_of names w (take n m)) s t → Writes (page_on names w m) s t
unfolding page_on
counted_only names w m e p = rw (ap (λ i. take i m) (e ∙ min_comm (length m) 4097) ∙ take_min 4097 m) at p

pub few-counted : (m : List ℕ) {n : ℕ} → n ≡ min (length m) 4097 → length (take n m) ≤ 4097
few-counted m {n = n} e = omega (arith, e, length-take n m, min-le_left n (length m), min-le_right (length m) 4097)
