-- Functions that only look like the desk's exports are turned down, each by an example. Assumes nothing.
--     right_unasked   one that shows everybody the same, be it all or only what is open, by B, whose octets the right alone sees
--     shows_nothing   one that shows nothing, by B
--     what_unasked    one that gives a number one name, be it an element's or a message's, by 1
--     names-nothing   one that gives no name, by 1
use mathlib.Core.Path.{◌≡◌, refl, ap, ◌∙◌}
use mathlib.Core.Bool.{cond}
use mathlib.Core.List.{List, [], ◌∷◌}
use Prim.Native.Nat.{ℕ, ◌+◌, ◌≤◌, ◌<◌}
use native.Mathlib.Omega.{arith}
use lib.Dec.{eqb}
use lib.ListN.{length, take, replicate, length-append, length-replicate}
use lib.Seq.{take_all}
use Rattle.rules.specs.Framing.{version}
use Rattle.rules.specs.Listings.{book}
use Rattle.rules.specs.Verdicts.{check, first, header_checks, framing_checks}
use Rattle.rules.specs.declared.Verdict.{Verdict}
use Rattle.promises.specs.StandIns.{below}
use Rattle.phrases.specs.Texts.{octets_of, text_in}
use Rattle.phrases.specs.Table.{texts, text_for}
use Rattle.phrases.specs.Names.{trimmed, element_name}
use Rattle.refusing.specs.Dumps.{dump_lines, dump}
use Rattle.refusing.specs.Levels.{reason_of}
use Rattle.refusing.specs.Refused.{refused_run, refused_lines, refused_page}
use Rattle.refusing.proofs.Lengths.{refused-length}
use Rattle.showing.specs.Showing.{page, page_of, page_on}
use Rattle.wokdesk.specs.Names.{entry, often, entries, table, names}
use Rattle.wokdesk.specs.Pages.{view_of, page_for, name_for}
use Rattle.wokdesk.specs.StandIns.{Put, Show, GivenView, IsShow, Name, GivenName, IsName}

-- ---- pages

-- B
abbrev message_b : List ℕ
message_b = 96 ∷ []

-- room for its page
abbrev room : List ℕ
room = replicate 400 0

unfoldable verdict : Verdict
verdict = first (framing_checks book 1 message_b)

given_no : GivenView 1 0 0 message_b room
unfolding below
given_no = record { lent = record { kind = refl; octets = refl; numbers = refl }; right_octet = refl; full_octet = refl }

given_yes : GivenView 1 1 0 message_b room
unfolding below
given_yes = record { lent = record { kind = refl; octets = refl; numbers = refl }; right_octet = refl; full_octet = refl }

page-is : (right : ℕ) → page_for 1 right 0 message_b ≡ refused_page names (view_of 1 right 0) verdict message_b
unfolding page_for page_on page_of page verdict framing_checks header_checks check first version book
page-is right = refl

abbrev said : List ℕ
said = refused_lines names verdict (refused_run 1 message_b verdict (reason_of 1 message_b verdict))

page-length : (right : ℕ) → length (page_for 1 right 0 message_b) ≡ length said + length (cond (eqb right 1) (dump message_b) [])
unfolding refused_page
page-length right = ap length (page-is right) ∙ length-append said (cond (eqb right 1) (dump message_b) [])

some-dump : 0 < length (dump message_b)
unfolding dump
some-dump = omega (arith, length-append (dump_lines message_b) (10 ∷ []))

fits : (right : ℕ) → length (page_for 1 right 0 message_b) ≤ 400
fits right = omega (arith, ap length (page-is right), refused-length names (view_of 1 right 0) verdict message_b)

module _ (f : Show) (s : IsShow f) where
  counts : (right : ℕ) → GivenView 1 right 0 message_b room → (f 1 right 0 message_b room).answer ≡ length (page_for 1 right 0 message_b)
  counts right g =
      let l : length (page_for 1 right 0 message_b) ≤ length room = omega (arith, fits right, length-replicate {A = ℕ} 400 0) in
      (s 1 right 0 message_b room g).answers ∙ ap length (take_all (length room) (page_for 1 right 0 message_b) l)

  pub right_unasked : ((k r r' full : ℕ) (m p : List ℕ) → GivenView k r full m p → GivenView k r' full m p → f k r full m p ≡ f k r' full m p) → ⊥
  right_unasked a =
      let yes-page = counts 1 given_yes in
      let no-page = counts 0 given_no in
      omega (arith, yes-page, no-page, ap (λ (x : Put). x.answer) (a 1 1 0 0 message_b room given_yes given_no), page-length 1, page-length 0, some-dump)

  pub shows_nothing : ((k r full : ℕ) (m p : List ℕ) → GivenView k r full m p → (f k r full m p).answer ≡ 0) → ⊥
  shows_nothing a = omega (arith, counts 1 given_yes, a 1 1 0 message_b room given_yes, page-length 1, some-dump)

-- ---- names

abbrev space : List ℕ
space = replicate 32 0

element_1 : length (take (length space) (name_for 0 1)) ≡ 4
unfolding name_for element_name trimmed entries often entry table
element_1 = refl

message_1 : length (take (length space) (name_for 1 1)) ≡ 12
unfolding name_for text_for text_in texts octets_of
message_1 = refl

given-element : GivenName 0 1 space
unfolding below
given-element = record { what_octet = refl; number_octet = refl; octets = refl }

given-message : GivenName 1 1 space
unfolding below
given-message = record { what_octet = refl; number_octet = refl; octets = refl }

module _ (f : Name) (s : IsName f) where
  of-element : (f 0 1 space).answer ≡ 4
  of-element = (s 0 1 space given-element).answers ∙ element_1

  of-message : (f 1 1 space).answer ≡ 12
  of-message = (s 1 1 space given-message).answers ∙ message_1

  pub what_unasked : ((what what' n : ℕ) (name : List ℕ) → GivenName what n name → GivenName what' n name → f what n name ≡ f what' n name) → ⊥
  what_unasked a = omega (arith, of-element, of-message, ap (λ (x : Put). x.answer) (a 0 1 1 space given-element given-message))

  pub names-nothing : ((what n : ℕ) (name : List ℕ) → GivenName what n name → (f what n name).answer ≡ 0) → ⊥
  names-nothing a = omega (arith, of-element, a 0 1 space given-element)
