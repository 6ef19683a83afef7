-- A message as it comes, one octet at a time: what is held between two octets, what one more does, and what the end says. Assumes nothing.
use Rattle.std.specs.Prelude.{ℕ, suc, ◌+◌, ◌-◌, cond, List, [], ◌∷◌, ◌++◌, eqb, ltb, drop, replicate}
use Rattle.rules.specs.Sizes.{largest_message, header_numbers, used}
use Rattle.rules.specs.Framing.{message_type, length_field, header_length}
use Rattle.rules.specs.Listings.{book}
use Rattle.rules.specs.Taking.{Out, cut, whole, body_level}
use Rattle.rules.specs.Verdicts.{opening_checks, refused_at, refuses, first}
use Rattle.rules.specs.Answers.{refused_reading}
use Rattle.rules.specs.declared.Verdict.{Verdict}
use Rattle.rules.specs.declared.Reading.{Reading}
use Rattle.taking.specs.Held.{no_counts}
use Rattle.reading.specs.Scan.{whole_reading}
use Rattle.judging.specs.Judging.{given}
use Rattle.pieces.specs.Steps.{Walking, going, eat, begin, outcome}
use Rattle.pieces.specs.Depth.{deepest}
use Rattle.pieces.specs.Drafts.{Draft, plain, one_draft, shut_draft, draft_rows}

-- the octets of a message's start that are held
abbrev pub head_octets : ℕ
head_octets = 4

-- Octets past 4,096 are only counted, and the count stays at the first number that is too large.
unfoldable pub count_on : ℕ → ℕ
count_on n = cond (ltb largest_message n) n (suc n)

-- between two octets: the kind, the first octets of the message, how many have come, and what is made of the elements
pub record Feed : Type 0 where
  pub kind : ℕ
  pub head : List ℕ
  pub count : ℕ
  pub walking : Walking Draft

-- what is held at an outcome
abbrev pub state_of : {S : Type 0} → Out S → S
state_of (cut q s) = s
state_of (whole s) = s

module _ (k : ℕ) where
  abbrev pub eat_held : Walking Draft → ℕ → Walking Draft
  eat_held = eat book k Draft one_draft (shut_draft k) draft_rows deepest

  abbrev pub out_held : Walking Draft → Out Draft
  out_held = outcome book k Draft one_draft (shut_draft k) draft_rows deepest

  -- nothing is walked
  abbrev pub idle : Draft → Walking Draft
  idle s = going [] 0 [] 0 s

  -- the elements begin, if the message will pass checks 1 to 8 with the length that its header says
  unfoldable pub body : List ℕ → Draft → Walking Draft
  body h s =
      cond (refuses (first (opening_checks book k h (length_field h + 4)))) (idle s)
      (begin book k Draft one_draft (shut_draft k) draft_rows deepest (body_level book h) (header_length h) (length_field h + 4 - header_length h) s)

-- one more octet of the header
unfoldable pub head_on : List ℕ → ℕ → ℕ → List ℕ
head_on h n x = cond (ltb n head_octets) (h ++ (x ∷ [])) h

unfoldable pub in_header : ℕ → List ℕ → ℕ → Walking Draft → Feed
in_header k h n w = record {
  kind = k;
  head = h;
  count = n;
  walking = cond (eqb n (header_length h)) (body k h (state_of (out_held k w))) w;
}

unfoldable pub feed : Feed → ℕ → Feed
feed f x =
    cond (ltb f.count (header_length f.head))
    (in_header f.kind (head_on f.head f.count x) (suc f.count) f.walking)
    (record { kind = f.kind; head = f.head; count = count_on f.count; walking = eat_held f.kind f.walking x })

unfoldable pub feed_all : Feed → List ℕ → Feed
feed_all f [] = f
feed_all f (x ∷ xs) = feed_all (feed f x) xs

-- part after part
unfoldable pub feed_parts : Feed → List (List ℕ) → Feed
feed_parts f [] = f
feed_parts f (p ∷ ps) = feed_parts (feed_all f p) ps

-- the message that they join to
unfoldable pub joined_parts : List (List ℕ) → List ℕ
joined_parts [] = []
joined_parts (p ∷ ps) = p ++ joined_parts ps

-- ---- the start: the table is zero

abbrev pub zeros : ℕ → List ℕ
zeros room = replicate room 0

-- with a table, whose rows stand after its header
unfoldable pub started : ℕ → List ℕ → Feed
started k table = record { kind = k; head = []; count = 0; walking = idle k (plain no_counts (drop header_numbers table)) }

-- ---- the end

unfoldable pub out_reading : Out Draft → Reading
out_reading (cut q s) = refused_reading (refused_at 9 67 q 0 0)
out_reading (whole s) = whole_reading s.counts

-- checks 1 to 9
unfoldable pub fed_reading : Feed → Reading
fed_reading f =
    cond (refuses (first (opening_checks book f.kind f.head f.count))) (refused_reading (first (opening_checks book f.kind f.head f.count)))
    (out_reading (out_held f.kind f.walking))

abbrev pub fed_verdict : Feed → ℕ → Verdict
fed_verdict f room = given (fed_reading f) room

-- rows, kept rows, place of the first row, numbers used, message type, kind; then the rows
abbrev pub headed : ℕ → ℕ → Draft → List ℕ
headed typ k s = s.counts.rows ∷ s.counts.kept ∷ header_numbers ∷ used s.counts.rows ∷ typ ∷ k ∷ s.rows

unfoldable pub fed_table : Feed → ℕ → List ℕ
fed_table f room = cond (refuses (fed_verdict f room)) (zeros room) (headed (message_type f.head) f.kind (state_of (out_held f.kind f.walking)))
