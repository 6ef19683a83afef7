-- The exports to C, over the numbers that the receiver reads in the octets: the octets of a number are read as that number, so what holds of the call's
-- table and of its five numbers holds of what is read. Assumes nothing.
--     stored_as_called   the call on a table lent as octets is the call on the numbers read in them       five-read, five-short   the five numbers
--     stored-leaves, leaves-stored, stored-stays   what is left in the octets
--     answer-read, answer-short   the five and a length
use mathlib.Core.Path.{◌≡◌, refl, sym, ap, ◌∙◌}
use mathlib.Core.Logic.{◌⊎◌, inl, inr}
use mathlib.Core.Bool.{Bool, true, false, cond}
use mathlib.Core.List.{List, [], ◌∷◌, ◌++◌}
use Prim.Native.Nat.{ℕ, zero, suc, ◌*◌, ◌/◌, ◌%◌, ◌≤◌, ◌<◌}
use native.Mathlib.Omega.{arith}
use borrow.Author.Tests.{lt-ltb, le-ltb}
use lib.Dec.{ltb}
use lib.ListN.{length, take, drop, get_or}
use Rattle.rules.specs.Framing.{message_type}
use Rattle.rules.specs.Sizes.{five_octets, answer_octets, used}
use Rattle.rules.specs.Types.{among}
use Rattle.rules.specs.Listings.{book}
use Rattle.rules.specs.Table.{table_of, laid}
use Rattle.rules.specs.Verdicts.{accepted, refuses, items, call_verdict, call_table}
use Rattle.rules.specs.Octets.{number_of, numbers_in, octets_of, five, five_laid, six, answer_laid, table_room, call_octets}
use Rattle.rules.specs.Answers.{Called, CalledStored, CalledOctets}
use Rattle.rules.specs.declared.Verdict.{Verdict}
use Rattle.rules.proofs.Book.{book-sound}
use Rattle.rules.proofs.Numbers.{numbers-length}
use Rattle.tables.specs.Words.{rows}
use Rattle.tables.proofs.Tests.{clash}
use Rattle.tables.proofs.Rowed.{table-length, laid-begins, count_of}
use Rattle.verdicts.proofs.Laying.{laid-length, laid-past, enough-room}
use Rattle.verdicts.proofs.Acceptance.{OneOf}
use Rattle.verdicts.proofs.Accepting.{accept}
use Rattle.verdicts.proofs.Calling.{roomy, acceptance}
use Rattle.verdicts.proofs.Completeness.{complete}
use Rattle.promises.specs.Exports.{LeavesOctets}

pub read-numbers : (xs ys : List ℕ) → numbers_in (octets_of xs ++ ys) ≡ xs ++ numbers_in ys
unfolding numbers_in octets_of
read-numbers [] ys = refl
read-numbers (x ∷ xs) ys = let e : number_of (x / 256) (x % 256) ≡ x = omega arith in rw (e, read-numbers xs ys)

pub octets-length : (xs : List ℕ) → length (octets_of xs) ≡ 2 * length xs
unfolding octets_of
octets-length [] = refl
octets-length (x ∷ xs) = omega (arith, octets-length xs)

-- a verdict with code 0 is acceptance, where every answer is that or has one of the numbers, none of which is 0
pub zero-accepted : (ns : List ℕ) → among 0 ns ≡ false → (v : Verdict) → OneOf ns v → v.code ≡ 0 → v ≡ accepted
zero-accepted ns z v (inl a) e = a
zero-accepted ns z v (inr a) e = absurd (clash (among 0 ns) (rw e at a) z)

-- the code alone: 0, or one of the numbers
pub code_of : (ns : List ℕ) (v : Verdict) → OneOf ns v → (v.code ≡ 0) ⊎ (among v.code ns ≡ true)
code_of ns v (inl a) = inl (ap (λ (w : Verdict). w.code) a)
code_of ns v (inr a) = inr a

-- ---- numbers stored as octets

drop-numbers : (n : ℕ) (xs : List ℕ) → numbers_in (drop (2 * n) xs) ≡ drop n (numbers_in xs)
unfolding numbers_in
drop-numbers zero xs = refl
drop-numbers (suc n) [] = let e : 2 * suc n ≡ suc (suc (2 * n)) = omega arith in rw e
drop-numbers (suc n) (x ∷ []) = let e : 2 * suc n ≡ suc (suc (2 * n)) = omega arith in rw e
drop-numbers (suc n) (x ∷ y ∷ xs) = let e : 2 * suc n ≡ suc (suc (2 * n)) = omega arith in rw e (drop-numbers n xs)

-- octets laid over octets are read as numbers laid over numbers
laid-numbers : (xs t : List ℕ) → numbers_in (laid (octets_of xs) t) ≡ laid xs (numbers_in t)
unfolding laid
laid-numbers xs t = read-numbers xs (drop (length (octets_of xs)) t) ∙ rw (octets-length xs, drop-numbers (length xs) t)

module _ {k : ℕ} {m t c : List ℕ} {v : Verdict} {t' c' : List ℕ} (x : CalledStored k m t c v t' c') where
  abbrev table : List ℕ
  table = table_of (message_type m) k (items book k m)

  room_is : length (numbers_in t) ≡ table_room t
  room_is = numbers-length t

  -- the numbers that are read are those of the call on the numbers that were lent
  pub stored_as_called : Called k m (numbers_in t) c v (numbers_in t') c'
  unfolding call_octets call_table
  stored_as_called = record {
    answers = rw room_is x.answers;
    table_left = ap numbers_in x.table_left ∙ rw room_is (go (refuses (call_verdict book k m (length c) (table_room t))));
    copy_left = rw room_is x.copy_left;
  }
    where
      go : (r : Bool) → numbers_in (cond r t (laid (octets_of table) t)) ≡ cond r (numbers_in t) (laid table (numbers_in t))
      go true = refl
      go false = laid-numbers table t

  pub stored-leaves : v ≡ accepted → (length m ≤ length c) × LeavesOctets book k m t t'
  unfolding call_octets
  stored-leaves a =
      let y = (acceptance book book-sound k m (length c) (numbers_in t) (numbers_in t')).0 (sym stored_as_called.answers ∙ a, sym stored_as_called.table_left) in
      let ok : refuses (call_verdict book k m (length c) (table_room t)) ≡ false = rw (sym x.answers ∙ a) in
      let left : t' ≡ laid (octets_of table) t = x.table_left ∙ rw ok in
      let size : length (octets_of table) ≡ 2 * used (length (items book k m)) = octets-length table ∙ ap (λ (n : ℕ). 2 * n) (table-length (message_type m) k (items book k m)) in
      let room = enough-room book k m (table_room t) (rw (roomy book book-sound k m (length c) (table_room t) y.0) at ok) in
      let count : rows (numbers_in t') ≡ length (items book k m) = count_of (numbers_in t') (items book k m) (rw (ap numbers_in left ∙ laid-numbers table t) (laid-begins (message_type m) k (items book k m) (numbers_in t))) in (
        y.0,
        record {
          accepts = y.1.accepts;
          size = ap length left ∙ laid-length (octets_of table) t (omega (arith, room, size));
          stays = λ i l. ap (λ (xs : List ℕ). get_or xs i 0) left ∙ laid-past (octets_of table) t i (omega (arith, size, count, l));
        },
      )

  -- and where such a table is read and the copy has room, it is acceptance
  pub leaves-stored : (length m ≤ length c) × LeavesOctets book k m t t' → v ≡ accepted
  leaves-stored (r, l) =
      let y = complete book book-sound k m (numbers_in t') l.accepts.table in
      x.answers ∙ roomy book book-sound k m (length c) (table_room t) r
      ∙ accept book book-sound k m (numbers_in t') y.0 y.1 y.2 l.accepts.header (table_room t)
      (omega (arith, y.2.room, numbers-length t', l.size)) l.accepts.none_short l.accepts.none_missing

  pub stored-stays : refuses v ≡ true → t' ≡ t
  unfolding call_octets
  stored-stays e = let z : refuses (call_verdict book k m (length c) (table_room t)) ≡ true = rw x.answers at e in x.table_left ∙ rw z

-- the export to C is this, with the verdict's code for a result and its five numbers stored
pub octets-stored : {k : ℕ} {m t c f : List ℕ} {d : ℕ} {t' c' f' : List ℕ} → CalledOctets k m t c f d t' c' f' → CalledStored k m t c (call_verdict book k m (length c) (table_room t)) t' c'
octets-stored x = record { answers = refl; table_left = x.table_left; copy_left = x.copy_left }

module _ (f f' : List ℕ) (v : Verdict) (e : f' ≡ five_laid v f) where
  pub five-read : five_octets ≤ length f → take 5 (numbers_in f') ≡ five v
  unfolding five_laid laid
  five-read l =
      let z : f' ≡ octets_of (five v) ++ drop (length (octets_of (five v))) f = e ∙ rw (le-ltb (length f) five_octets l) in
      ap (λ (xs : List ℕ). take 5 (numbers_in xs)) z ∙ ap (take 5) (read-numbers (five v) (drop (length (octets_of (five v))) f))

  pub five-short : length f < five_octets → f' ≡ f
  unfolding five_laid
  five-short l = e ∙ rw (lt-ltb (length f) five_octets l)

  pub five-stays : (i : ℕ) → five_octets ≤ i → get_or f' i 0 ≡ get_or f i 0
  unfolding five_laid octets_of
  five-stays i l = rw e (go (ltb (length f) five_octets))
    where
      go : (c : Bool) → get_or (cond c f (laid (octets_of (five v)) f)) i 0 ≡ get_or f i 0
      go true = refl
      go false = laid-past (octets_of (five v)) f i l

-- ---- the five and a length

module _ (f f' : List ℕ) (v : Verdict) (n : ℕ) (e : f' ≡ answer_laid v n f) where
  pub answer-read : answer_octets ≤ length f → take 6 (numbers_in f') ≡ six v n
  unfolding answer_laid laid
  answer-read l =
      let z : f' ≡ octets_of (six v n) ++ drop (length (octets_of (six v n))) f = e ∙ rw (le-ltb (length f) answer_octets l) in
      ap (λ (xs : List ℕ). take 6 (numbers_in xs)) z ∙ ap (take 6) (read-numbers (six v n) (drop (length (octets_of (six v n))) f))

  pub answer-stays : (i : ℕ) → answer_octets ≤ i → get_or f' i 0 ≡ get_or f i 0
  unfolding answer_laid octets_of
  answer-stays i l = rw e (go (ltb (length f) answer_octets))
    where
      go : (c : Bool) → get_or (cond c f (laid (octets_of (six v n)) f)) i 0 ≡ get_or f i 0
      go true = refl
      go false = laid-past (octets_of (six v n)) f i l

  pub answer-short : length f < answer_octets → f' ≡ f
  unfolding answer_laid
  answer-short l = e ∙ rw (lt-ltb (length f) answer_octets l)
