-- Two results, with what they leave, that a contract allows for one input are equal: each contract says what they equal. Assumes nothing.
use mathlib.Core.Path.{◌≡◌, sym, ◌∙◌}
use mathlib.Core.Bool.{Bool}
use mathlib.Core.List.{List}
use Prim.Native.Nat.{ℕ}
use denote.Ref.{Bor}
use Rattle.rules.specs.Values.{Stands}
use Rattle.rules.specs.Answers.{Read, Decided, Called, CalledStored, Cleans, Builds, Plain, PlainFound, Desk, DeskFound, CalledOctets, CleanedOctets, BuiltOctets, Counted, CountedOctets}
use Rattle.rules.specs.Program.{Written}
use Rattle.rules.specs.declared.Verdict.{Verdict}
use Rattle.rules.specs.declared.Reading.{Reading}
use Rattle.rules.specs.declared.Decision.{Decision}
use Rattle.rules.specs.declared.Sent.{Sent}
use Rattle.rules.specs.declared.Count.{Count}
use Rattle.rules.specs.declared.Span.{Span}

-- the one law: a contract that is an equation allows one answer
pub both : {A : Type 0} {x y z : A} → y ≡ x → z ≡ x → y ≡ z
both e f = e ∙ sym f

pub read_unique : (k : ℕ) (m rows : List ℕ) (r r' : Reading) (l l' : List ℕ) → Read k m rows r l → Read k m rows r' l' → (r ≡ r') × (l ≡ l')
read_unique k m rows r r' l l' x y = (both x.answers y.answers, both x.rows_left y.rows_left)

pub decided_unique : (k : ℕ) (m rows : List ℕ) (room : ℕ) (c : List ℕ) (r r' : Decision) (l l' d d' : List ℕ) → Decided k m rows room c r l d → Decided k m rows room c r' l' d'
    → (r ≡ r') × (l ≡ l') × (d ≡ d')
decided_unique k m rows room c r r' l l' d d' x y = (both x.answers y.answers, both x.rows_left y.rows_left, both x.copy_left y.copy_left)

pub called_unique : (k : ℕ) (m t c : List ℕ) (r r' : Verdict) (l l' d d' : List ℕ) → Called k m t c r l d → Called k m t c r' l' d' → (r ≡ r') × (l ≡ l') × (d ≡ d')
called_unique k m t c r r' l l' d d' x y = (both x.answers y.answers, both x.table_left y.table_left, both x.copy_left y.copy_left)

pub called-stored_unique : (k : ℕ) (m t c : List ℕ) (r r' : Verdict) (l l' d d' : List ℕ) → CalledStored k m t c r l d → CalledStored k m t c r' l' d'
    → (r ≡ r') × (l ≡ l') × (d ≡ d')
called-stored_unique k m t c r r' l l' d d' x y = (both x.answers y.answers, both x.table_left y.table_left, both x.copy_left y.copy_left)

pub cleaned_unique : (k : ℕ) (m c : List ℕ) (r r' : Sent) (l l' : List ℕ) → Cleans k m c r l → Cleans k m c r' l' → (r.verdict ≡ r'.verdict) × (r.length ≡ r'.length) × (l ≡ l')
cleaned_unique k m c r r' l l' x y = (both x.verdict_is y.verdict_is, both x.length_is y.length_is, both x.out_left y.out_left)

pub builds_unique : (teid sequence : ℕ) (t values room : List ℕ) (r r' : Sent) (l l' : List ℕ) → Builds teid sequence t values room r l → Builds teid sequence t values room r' l'
    → (r.verdict ≡ r'.verdict) × (r.length ≡ r'.length) × (l ≡ l')
builds_unique teid sequence t values room r r' l l' x y = (both x.verdict_is y.verdict_is, both x.length_is y.length_is, both x.room_left y.room_left)

pub counted_unique : (k : ℕ) (m : List ℕ) (r r' : Count) → Counted k m r → Counted k m r' → (r.verdict ≡ r'.verdict) × (r.rows ≡ r'.rows)
counted_unique k m r r' x y = (both x.verdict_is y.verdict_is, both x.rows_is y.rows_is)

-- equal octets, and equal places: the block and the offset in it
pub record SamePart (r r' : Bor (List ℕ)) : Type 0 where
  pub octets : r.now ≡ r'.now
  pub block : r.ref_ptr.0 ≡ r'.ref_ptr.0
  pub place : r.ref_ptr.1 ≡ r'.ref_ptr.1

stands_unique : (buffer : Bor (List ℕ)) (s : Span) (r r' : Bor (List ℕ)) → Stands buffer s r → Stands buffer s r' → SamePart r r'
stands_unique buffer s r r' x y = record { octets = both x.octets y.octets; block = both x.block y.block; place = both x.place y.place }

pub plain_unique : (k t i : ℕ) (m : Bor (List ℕ)) (table : List ℕ) (r r' : Bor (List ℕ)) → Plain k t i m table r → Plain k t i m table r' → SamePart r r'
plain_unique k t i m table r r' x y = stands_unique m _ r r' x y

pub desk_unique : (k row : ℕ) (right : Bool) (m c : Bor (List ℕ)) (table : List ℕ) (r r' : Bor (List ℕ)) → Desk k row right m c table r → Desk k row right m c table r' → SamePart r r'
desk_unique k row right m c table r r' x y = stands_unique _ _ r r' x y

pub plain-found_unique : (k t i : ℕ) (m table : List ℕ) (r r' : Bool) → PlainFound k t i m table r → PlainFound k t i m table r' → r ≡ r'
plain-found_unique k t i m table r r' x y = both x y

pub desk-found_unique : (k row : ℕ) (right : Bool) (m c table : List ℕ) (r r' : Bool) → DeskFound k row right m c table r → DeskFound k row right m c table r' → r ≡ r'
desk-found_unique k row right m c table r r' x y = both x y

pub called-octets_unique : (k : ℕ) (m t c five : List ℕ) (r r' : ℕ) (l l' d d' f f' : List ℕ) → CalledOctets k m t c five r l d f → CalledOctets k m t c five r' l' d' f'
    → (r ≡ r') × (l ≡ l') × (d ≡ d') × (f ≡ f')
called-octets_unique k m t c five r r' l l' d d' f f' x y =
    (both x.answers y.answers, both x.table_left y.table_left, both x.copy_left y.copy_left, both x.five_left y.five_left)

pub cleaned-octets_unique : (k : ℕ) (m c answer : List ℕ) (r r' : ℕ) (l l' f f' : List ℕ) → CleanedOctets k m c answer r l f → CleanedOctets k m c answer r' l' f'
    → (r ≡ r') × (l ≡ l') × (f ≡ f')
cleaned-octets_unique k m c answer r r' l l' f f' x y = (both x.answers y.answers, both x.clean_left y.clean_left, both x.answer_left y.answer_left)

pub built-octets_unique : (teid sequence : ℕ) (t values room answer : List ℕ) (r r' : ℕ) (l l' f f' : List ℕ) → BuiltOctets teid sequence t values room answer r l f
    → BuiltOctets teid sequence t values room answer r' l' f' → (r ≡ r') × (l ≡ l') × (f ≡ f')
built-octets_unique teid sequence t values room answer r r' l l' f f' x y =
    (both x.answers y.answers, both x.room_left y.room_left, both x.answer_left y.answer_left)

pub counted-octets_unique : (k : ℕ) (m answer : List ℕ) (r r' : ℕ) (f f' : List ℕ) → CountedOctets k m answer r f → CountedOctets k m answer r' f' → (r ≡ r') × (f ≡ f')
counted-octets_unique k m answer r r' f f' x y = (both x.answers y.answers, both x.answer_left y.answer_left)

pub written_unique : (input out : List ℕ) (r r' : ℕ) (o o' : List ℕ) → Written input out r o → Written input out r' o' → (r ≡ r') × (o ≡ o')
written_unique input out r r' o o' x y = (both x.answers y.answers, both x.out_left y.out_left)
