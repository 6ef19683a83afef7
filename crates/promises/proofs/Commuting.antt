-- Cleaning and masking commute: both ways end with a message whose rows are the message's kept rows, veiled, and such a message is what its rows emit.
-- Assumes nothing.
use mathlib.Core.Path.{◌≡◌, sym, ap, ◌∙◌}
use mathlib.Core.Bool.{Bool, true, false, cond}
use mathlib.Core.List.{List}
use Prim.Native.Nat.{ℕ, ◌+◌, ◌-◌, ◌<◌}
use native.Mathlib.Omega.{arith}
use lib.ListN.{length, take, drop, get_or, length-take, length-drop}
use lib.Seq.{ext_get_or, get_or-take, get_or-drop}
use Rattle.rules.specs.Sizes.{used}
use Rattle.rules.specs.Framing.{octet, header_length, flag_t}
use Rattle.rules.specs.Listings.{Book}
use Rattle.rules.specs.Taking.{items_in}
use Rattle.rules.specs.Verdicts.{first, refuses, framing_checks, items, table_checks, judge_checks}
use Rattle.rules.specs.Covered.{covered, masked}
use Rattle.rules.specs.Emitting.{amply, accepted_whole}
use Rattle.rules.specs.Cleaned.{pieces, cleaned, renumbered}
use Rattle.rules.specs.Sound.{sound}
use Rattle.rules.proofs.Checks.{both-pass}
use Rattle.rules.proofs.Rows.{Octets, header-least}
use Rattle.emitted.proofs.Wholes.{accepted-wholly, wholly-amply, accepted-amply}
use Rattle.emitted.proofs.Cleaning.{clean-accepted, clean-rows, clean-first, clean_second, clean-front, clean-twice, clean-same}
use Rattle.emitted.proofs.Octets.{cleaned-octets}
use Rattle.promises.proofs.Covering.{header_open}
use Rattle.promises.proofs.Clearing.{masked-at, masked-length}
use Rattle.promises.proofs.Agreeing.{same_taken}
use Rattle.promises.proofs.Copies.{masked_open, masked-verdict}
use Rattle.promises.proofs.Veils.{remaining-veiled, rows-veiled}

-- what is accepted passes 1 to 9
pub framed : (b : Book) (k : ℕ) (m : List ℕ) → refuses (amply b k m) ≡ false → refuses (first (framing_checks b k m)) ≡ false
unfolding judge_checks
framed b k m ok = (both-pass (framing_checks b k m) (table_checks b k m (used (length (items b k m)))) ok).0

module _ (b : Book) (fine : sound b ≡ true) (k : ℕ) (m : List ℕ) (ok : refuses (amply b k m) ≡ false) where
  -- masked, it has the same rows and is accepted
  pub same_rows : items b k (masked b k m) ≡ items b k m
  same_rows = ap items_in (same_taken b fine k m (masked b k m) (masked_open b fine k m (framed b k m ok)))

  pub still_amply : refuses (amply b k (masked b k m)) ≡ false
  still_amply = rw (same_rows, masked-verdict b fine k m (framed b k m ok) (used (length (items b k m)))) ok

  -- and the header is not masked
  pub header-same : (j : ℕ) → j < header_length m → octet (masked b k m) j ≡ octet m j
  header-same j l = masked-at b fine k m (framed b k m ok) j ∙ rw (header_open b k m j l)

  pub front_same : take (header_length m - 4) (drop 4 (masked b k m)) ≡ take (header_length m - 4) (drop 4 m)
  front_same =
      ext_get_or 0 (take (header_length m - 4) (drop 4 (masked b k m))) (take (header_length m - 4) (drop 4 m))
      (simp (length-take, length-drop, masked-length b fine k m (framed b k m ok))) each
    where
      each : (j : ℕ) → j < length (take (header_length m - 4) (drop 4 (masked b k m)))
          → get_or (take (header_length m - 4) (drop 4 (masked b k m))) j 0 ≡ get_or (take (header_length m - 4) (drop 4 m)) j 0
      each j l =
          let c : j < header_length m - 4 = omega (arith, l, length-take (header_length m - 4) (drop 4 (masked b k m))) in
          get_or-take (header_length m - 4) (drop 4 (masked b k m)) j 0 c ∙ get_or-drop 4 (masked b k m) j 0
          ∙ header-same (4 + j) (omega arith)
          ∙ sym (get_or-take (header_length m - 4) (drop 4 m) j 0 c ∙ get_or-drop 4 m j 0)

  pub length-same : header_length (masked b k m) ≡ header_length m
  unfolding header_length flag_t
  length-same = rw (header-same 0 (omega (arith, header-least m)))

  pub masked-front : take (header_length (masked b k m) - 4) (drop 4 (masked b k m)) ≡ take (header_length m - 4) (drop 4 m)
  masked-front = rw length-same front_same

-- two messages that are their own cleaned copies are equal if their headers are, but for the length, and their rows
own-copies : (b : Book) (k : ℕ) (x y : List ℕ) → cleaned b k x ≡ x → cleaned b k y ≡ y → octet x 0 ≡ octet y 0 → octet x 1 ≡ octet y 1
    → take (header_length x - 4) (drop 4 x) ≡ take (header_length y - 4) (drop 4 y) → pieces x (items b k x) ≡ pieces y (items b k y) → x ≡ y
unfolding cleaned
own-copies b k x y ex ey a c d e = sym ex ∙ rw (a, c, d, e) ey

pub amply-whole : (b : Book) (k : ℕ) (m : List ℕ) → accepted_whole b k m ≡ true → refuses (amply b k m) ≡ false
amply-whole b k m w = let r = accepted-wholly b k m w in accepted-amply b k m r.0 (wholly-amply b k m r.0 r.1)

module _ (b : Book) (fine : sound b ≡ true) (k : ℕ) (m : List ℕ) (o : Octets m) (ok : refuses (amply b k m) ≡ false) where
  abbrev clean : List ℕ
  clean = cleaned b k m

  whole : accepted_whole b k (cleaned b k m) ≡ true
  whole = clean-accepted b fine k m ok

  clean-ok : refuses (amply b k (cleaned b k m)) ≡ false
  clean-ok = amply-whole b k (cleaned b k m) whole

  masked-whole : accepted_whole b k (masked b k (cleaned b k m)) ≡ true
  masked-whole =
      rw (same_rows b fine k clean clean-ok, masked-verdict b fine k clean (framed b k clean clean-ok) (used (length (items b k clean)))) whole

  masked-octets : Octets (masked b k (cleaned b k m))
  masked-octets j = rw (masked-at b fine k clean (framed b k clean clean-ok) j) (go (covered b k clean j) (cleaned-octets b fine k m o ok j))
    where
      go : (c : Bool) {x : ℕ} → x < 256 → cond c 0 x < 256
      go true l = omega arith
      go false l = l

  pub clean-masked : cleaned b k (masked b k m) ≡ masked b k (cleaned b k m)
  clean-masked =
      let one = still_amply b fine k m ok in
      own-copies b k (cleaned b k (masked b k m)) (masked b k (cleaned b k m)) (clean-twice b fine k (masked b k m) one)
      (clean-same b fine k (masked b k clean) masked-octets masked-whole)
      (clean-first b k (masked b k m) ∙ header-same b fine k m ok 0 (omega (arith, header-least m)) ∙ sym (header-same b fine k clean clean-ok 0 (omega (arith, header-least clean)) ∙ clean-first b k m))
      (clean_second b k (masked b k m) ∙ header-same b fine k m ok 1 (omega (arith, header-least m)) ∙ sym (header-same b fine k clean clean-ok 1 (omega (arith, header-least clean)) ∙ clean_second b k m))
      (clean-front b fine k (masked b k m) one ∙ masked-front b fine k m ok ∙ sym (masked-front b fine k clean clean-ok ∙ clean-front b fine k m ok))
      rows
    where
      rows : pieces (cleaned b k (masked b k m)) (items b k (cleaned b k (masked b k m))) ≡ pieces (masked b k (cleaned b k m)) (items b k (masked b k (cleaned b k m)))
      rows =
          clean-rows b fine k (masked b k m) (still_amply b fine k m ok)
          ∙ rw (same_rows b fine k m ok, rows-veiled b fine k m (framed b k m ok), remaining-veiled (renumbered (items b k m)) (pieces m (items b k m)), ← clean-rows b fine k m ok)
          (sym (rw (same_rows b fine k clean clean-ok) (rows-veiled b fine k clean (framed b k clean clean-ok))))
