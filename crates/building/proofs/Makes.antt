-- What is made on the page is the message, and what goes to the room is that. Assumes nothing.
use mathlib.Core.Path.{◌≡◌, refl, ap, ◌∙◌}
use mathlib.Core.Logic.{◌⊎◌, inl, inr}
use mathlib.Core.Bool.{Bool, true, false, not, ◌||◌}
use mathlib.Core.List.{List, [], ◌∷◌, ◌++◌}
use Rattle.std.specs.Prelude.{Option, Some, None, Err}
use Prim.Native.Nat.{ℕ, ◌+◌, ◌≤◌, ◌<◌}
use native.Mathlib.Omega.{arith}
use borrow.Author.Tests.{lt-ltb, le-ltb}
use lib.Dec.{ltb}
use lib.ListN.{length, take, drop, length-append}
use lib.Seq.{length-take-le, take_at}
use Rattle.rules.specs.Sizes.{largest_message}
use Rattle.rules.specs.Listings.{book}
use Rattle.rules.specs.Table.{laid}
use Rattle.rules.specs.Verdicts.{refused, check, first}
use Rattle.rules.specs.Emitting.{accepted_whole}
use Rattle.rules.specs.declared.Verdict.{Verdict}
use Rattle.rules.specs.declared.Sent.{Sent}
use Rattle.answers.specs.Refusals.{sent_of}
use Rattle.emitting.specs.Emits.{over, valued, parts_in, RowFit, PutsRows}
use Rattle.emitting.proofs.Overs.{over-over}
use Rattle.emitting.proofs.Bridge.{length-low}
use Rattle.building.specs.Start.{header_size, start_of}
use Rattle.building.specs.Making.{By, Makes, Made, size, message, late_checks, sixteen}

-- ---- the header

pub start-length : (typ : ℕ) (teid : Option ℕ) (sequence n : ℕ) → length (start_of typ teid sequence n) ≡ header_size teid
start-length typ (Some teid) sequence n = refl
start-length typ None sequence n = refl

pub header_least : (teid : Option ℕ) → 8 ≤ header_size teid
header_least (Some teid) = omega arith
header_least None = omega arith

-- the start of a draft, copied over the start of the room
pub copied : (draft room : List ℕ) (n : ℕ) → n ≤ length draft → valued draft 0 n room 0 ≡ laid (take n draft) room
unfolding laid
copied draft room n l =
    let e : length (take n draft) ≡ n = length-take-le n draft l in
    let z : 0 + n ≡ n = omega arith in
    rw (e, z)

-- ---- the message

taken-over : (out xs : List ℕ) (n : ℕ) → length xs ≡ n → take n (over out 0 xs) ≡ xs
taken-over out xs n e = take_at xs (drop (0 + length xs) out) n e

module _ (kind typ : ℕ) (teid : Option ℕ) (sequence : ℕ) (rows : List ℕ) (count : ℕ) (values room : List ℕ) where
  abbrev n : ℕ
  n = size kind typ teid sequence rows count values room

  abbrev m : List ℕ
  m = message kind typ teid sequence rows count values room

  abbrev parts : List ℕ
  parts = parts_in rows count values false 0 count

  module _ (p : Makes rows count values) where
    pub message-length : length m ≡ n
    message-length = omega (arith, length-append (start_of typ teid sequence n) parts, start-length typ teid sequence n, p.octets)

    row-fit : n ≤ 4096 → (r : ℕ) → r < count → RowFit rows r count values false
    row-fit l r c = record {
      typ = p.types r c;
      len = length-low rows r count c (omega arith);
      least = λ e. absurd (unlike e);
      most = λ e. absurd (unlike e);
      there = p.there r c;
    }
      where
        unlike : false ≡ true → ⊥
        unlike e = let z : ◌≡◌ {A = ℕ} 0 1 = cc in omega arith

    pub puts-rows : (x : ℕ) → x ≡ n → x ≤ 4096 → (out : List ℕ) → length out ≡ 4096 → PutsRows rows count values false out (header_size teid)
    puts-rows x e l out s = record { fits = row-fit (omega arith); room = omega (arith, p.octets) }

    -- on the page
    pub page-holds : (x : ℕ) → x ≡ n → x ≤ 4096 → (page : List ℕ) {a c : List ℕ} → length page ≡ 4096 → a ≡ over page 0 (start_of typ teid sequence x) → c ≡ over a (header_size teid) parts → take x c ≡ m
    page-holds x e l page {a} {c} s y z =
        let w : header_size teid ≡ 0 + length (start_of typ teid sequence n) = omega (arith, start-length typ teid sequence n) in
        let y' : a ≡ over page 0 (start_of typ teid sequence n) = y ∙ rw e in
        let o : over (over page 0 (start_of typ teid sequence n)) (header_size teid) parts ≡ over page 0 (start_of typ teid sequence n ++ parts) =
        ap (λ (i : ℕ). over (over page 0 (start_of typ teid sequence n)) i parts) w
        ∙ over-over page 0 (start_of typ teid sequence n) parts (omega (arith, start-length typ teid sequence n, p.octets)) in
        let q : c ≡ over page 0 m = z ∙ ap (λ (i : List ℕ). over i (header_size teid) parts) y' ∙ o in
        rw (e, q) (taken-over page m n message-length)

  abbrev fifteen : Bool
  fifteen = ltb largest_message n || ltb (length room) n

  either-long : (x : ℕ) → x ≡ n → (4096 < x) ⊎ (length room < x) → fifteen ≡ true
  either-long x e (inl l) = rw (lt-ltb 4096 n (omega arith))
  either-long x e (inr l) = go (ltb 4096 n) (lt-ltb (length room) n (omega arith))
    where
      go : (c : Bool) → ltb (length room) n ≡ true → c || ltb (length room) n ≡ true
      go true z = refl
      go false z = z

  pub too_long : (x : ℕ) → x ≡ n → (4096 < x) ⊎ (length room < x) → (v : Verdict) → v ≡ refused 15 0
      → Made kind typ teid sequence rows count values room (sent_of (Err v)) room
  unfolding first check
  too_long x e l v w = rw (either-long x e l, w) (record { verdict_is = refl; length_is = refl; room_left = refl })

  sixteen-alone : (c : Bool) → first (check c (refused 16 0) ∷ []) ≡ check c (refused 16 0)
  unfolding first check
  sixteen-alone true = refl
  sixteen-alone false = refl

  short-enough : n ≤ 4096 → n ≤ length room → first (late_checks kind typ teid sequence rows count values room) ≡ sixteen kind m
  unfolding first check
  short-enough l h = rw (le-ltb 4096 n l, le-ltb (length room) n h) (sixteen-alone (not (accepted_whole book kind m)))

  pub sent : Makes rows count values → (x : ℕ) → x ≡ n → x ≤ 4096 → x ≤ length room → {d : List ℕ} → d ≡ m → {s : Sent} {room' : List ℕ} → By (sixteen kind d) (length d) d room s room'
      → Made kind typ teid sequence rows count values room s room'
  sent p x e l h {d} f {s} {room'} b = rw (short-enough (omega arith) (omega arith)) (rw (f, message-length p) at b)
