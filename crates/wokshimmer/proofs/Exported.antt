-- What the exports leave, each from what it exports. Assumes nothing.
use mathlib.Core.Path.{◌≡◌, ap, ◌∙◌}
use mathlib.Core.List.{List}
use Prim.Native.Nat.{ℕ, ◌≤◌}
use native.Mathlib.Omega.{arith}
use lib.ListN.{length}
use Rattle.rules.specs.Listings.{book}
use Rattle.rules.specs.Octets.{numbers_in, five_laid, answer_laid}
use Rattle.rules.specs.Answers.{CalledStored, CalledOctets, Cleans, CleanedOctets, Builds, BuiltOctets, Counted, CountedOctets}
use Rattle.rules.specs.declared.Verdict.{Verdict}
use Rattle.rules.specs.declared.Sent.{Sent}
use Rattle.rules.specs.declared.Count.{Count}
use Rattle.rules.proofs.Book.{book-sound}
use Rattle.rules.proofs.Readings.{few, rows_are}
use Rattle.emitted.proofs.Refusals.{clean-most}
use Rattle.emitted.proofs.Building.{build-most}

pub called-octets : {k : ℕ} {m table copy five table' copy' five' : List ℕ} {v : Verdict} → CalledStored k m table copy v table' copy' → five' ≡ five_laid v five
    → CalledOctets k m table copy five v.code table' copy' five'
called-octets {five = five} x f = record {
  answers = ap (λ (u : Verdict). u.code) x.answers;
  table_left = x.table_left;
  copy_left = x.copy_left;
  five_left = f ∙ ap (λ (u : Verdict). five_laid u five) x.answers;
}

pub cleaned-octets : {k : ℕ} {m clean answer clean' answer' : List ℕ} {s : Sent} → Cleans k m clean s clean' → {code : ℕ} → code ≡ s.verdict.code → answer' ≡ answer_laid s.verdict s.length answer
    → CleanedOctets k m clean answer code clean' answer'
cleaned-octets {answer = answer} x e f = record {
  answers = e ∙ ap (λ (u : Verdict). u.code) x.verdict_is;
  clean_left = x.out_left;
  answer_left = f ∙ rw (x.verdict_is, x.length_is);
}

-- the length has 16 bits
pub length_most : {k : ℕ} {m clean clean' : List ℕ} {s : Sent} → Cleans k m clean s clean' → s.length ≤ 65535
length_most {k} {m} {clean} x = omega (arith, x.length_is, clean-most book book-sound k m (length clean))

module _ (table : List ℕ) {teid sequence : ℕ} {values room : List ℕ} {s : Sent} {room' : List ℕ} (x : Builds teid sequence (numbers_in table) values room s room') where
  pub built-octets : {code : ℕ} {answer answer' : List ℕ} → code ≡ s.verdict.code → answer' ≡ answer_laid s.verdict s.length answer
      → BuiltOctets teid sequence table values room answer code room' answer'
  built-octets {answer = answer} e f = record {
    answers = e ∙ ap (λ (u : Verdict). u.code) x.verdict_is;
    room_left = x.room_left;
    answer_left = f ∙ rw (x.verdict_is, x.length_is);
  }

  pub built-most : s.length ≤ 65535
  built-most = omega (arith, x.length_is, build-most book book-sound teid sequence (numbers_in table) values (length room))

-- a count has 16 bits
pub counted-octets : {k : ℕ} {m answer answer' : List ℕ} {s : Count} → Counted k m s → {code : ℕ} → code ≡ s.verdict.code → answer' ≡ answer_laid s.verdict s.rows answer
    → CountedOctets k m answer code answer'
counted-octets x e f = record { answers = e ∙ ap (λ (u : Verdict). u.code) x.verdict_is; answer_left = f ∙ rw (x.verdict_is, x.rows_is) }

pub count_most : {k : ℕ} {m : List ℕ} {s : Count} → Counted k m s → s.rows ≤ 65535
count_most {k} {m} x = omega (arith, x.rows_is, rows_are book k m, few book k m)
