-- What the functions that make a message ask and leave, by the rows' numbers. Assumes nothing.
use Rattle.std.specs.Prelude.{◌≡◌, true, false, Option, Some, None, Result, MatchResult, cond, not, ◌||◌, List, [], ◌∷◌, ◌++◌, ℕ, ◌+◌, ◌≤◌, ◌<◌, ltb, length}
use Rattle.rules.specs.Sizes.{largest_message}
use Rattle.rules.specs.Types.{among, is_group}
use Rattle.rules.specs.Listings.{book, is_message, message_of}
use Rattle.rules.specs.Table.{laid}
use Rattle.rules.specs.Emitting.{accepted_whole}
use Rattle.rules.specs.Built.{reasons, any_of, built, late_verdict}
use Rattle.rules.specs.Verdicts.{check, refused, refuses, first}
use Rattle.rules.specs.declared.Verdict.{Verdict}
use Rattle.rules.specs.declared.Sent.{Sent}
use Rattle.rules.proofs.Reasons.{NoReason}
use Rattle.answers.specs.declared.Refusal.{Refusal}
use Rattle.building.specs.declared.header.Header.{Header}
use Rattle.building.specs.Start.{header_size, start_of}
use Rattle.answers.specs.Refusals.{verdict_of}
use Rattle.emitting.specs.Emits.{number, sizes_in, parts_in}

-- the checks before the message is made
abbrev pub early_checks : ℕ → ℕ → ℕ → List ℕ → List ℕ → List Verdict
early_checks k typ sequence t values =
    check (not (among k book.kinds)) (refused 1 0)
    ∷ check (not (is_message book typ)) (refused 7 0)
    ∷ check (not (among k (message_of book typ).kinds)) (refused 21 0)
    ∷ check (any_of (reasons sequence t values)) (refused 14 0)
    ∷ []

-- what a table is, for a kind and a type, where none of them applies
pub record Opens (kind typ sequence : ℕ) (t values : List ℕ) : Type 0 where
  pub kind_known : among kind book.kinds ≡ true
  pub type_listed : is_message book typ ≡ true
  pub on_kind : among kind (message_of book typ).kinds ≡ true
  pub right : NoReason sequence t values

-- what is said of a header, which carries a TEID exactly if its type wants one
pub record Heads (typ teid sequence : ℕ) (h : Header) : Type 0 where
  pub typ_is : h.typ ≡ typ
  pub teid_is : h.teid ≡ cond (message_of book typ).teid (Some teid) None
  pub sequence_is : h.sequence ≡ sequence

-- the header, or the first that applies
abbrev pub Early : ℕ → ℕ → ℕ → ℕ → List ℕ → List ℕ → Result Header Refusal → Type 0
Early kind typ teid sequence t values r =
    MatchResult r (λ h. Opens kind typ sequence t values × Heads typ teid sequence h) (λ e. verdict_of e ≡ first (early_checks kind typ sequence t values))

-- 16: it would not be accepted with each row kept
abbrev pub sixteen : ℕ → List ℕ → Verdict
sixteen kind m = check (not (accepted_whole book kind m)) (refused 16 0)

-- ---- a message by its rows

module _ (kind typ : ℕ) (teid : Option ℕ) (sequence : ℕ) (rows : List ℕ) (count : ℕ) (values room : List ℕ) where
  abbrev pub size : ℕ
  size = header_size teid + sizes_in rows 0 count

  abbrev pub message : List ℕ
  message = start_of typ teid sequence size ++ parts_in rows count values false 0 count

  abbrev pub late_checks : List Verdict
  late_checks =
      check (ltb largest_message size || ltb (length room) size) (refused 15 0) ∷ sixteen kind message ∷ []

-- an answer, and a room, by a verdict
pub record By (v : Verdict) (n : ℕ) (m room : List ℕ) (answer : Sent) (room' : List ℕ) : Type 0 where
  pub verdict_is : answer.verdict ≡ v
  pub length_is : answer.length ≡ cond (refuses v) 0 n
  pub room_left : room' ≡ cond (refuses v) room (laid m room)

-- rows that can be written
pub record Makes (rows : List ℕ) (count : ℕ) (values : List ℕ) : Type 0 where
  pub types : (n : ℕ) → n < count → number rows n 1 < 256
  pub there : (n : ℕ) → n < count → is_group (number rows n 1) ≡ false → number rows n 3 + number rows n 4 ≤ length values
  pub octets : length (parts_in rows count values false 0 count) ≡ sizes_in rows 0 count

abbrev pub Made : ℕ → ℕ → Option ℕ → ℕ → List ℕ → ℕ → List ℕ → List ℕ → Sent → List ℕ → Type 0
Made kind typ teid sequence rows count values room answer room' =
    By (first (late_checks kind typ teid sequence rows count values room)) (size kind typ teid sequence rows count values room)
    (message kind typ teid sequence rows count values room) room answer room'

-- ---- the builder, once it knows kind and type

pub record BuildsBy (kind typ teid sequence : ℕ) (t values room : List ℕ) (answer : Sent) (room' : List ℕ) : Type 0 where
  pub verdict_is : answer.verdict ≡ late_verdict book kind typ teid sequence t values (length room)
  pub length_is : answer.length ≡ cond (refuses (late_verdict book kind typ teid sequence t values (length room))) 0 (length (built book kind typ teid sequence t values))
  pub room_left : room' ≡ cond (refuses (late_verdict book kind typ teid sequence t values (length room))) room (laid (built book kind typ teid sequence t values) room)
