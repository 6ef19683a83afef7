-- The elements begin in a state that fits. Assumes nothing.
use mathlib.Core.Path.{◌≡◌, refl, sym, ◌∙◌}
use mathlib.Core.Bool.{Bool, true, false, cond, ◌||◌}
use mathlib.Core.List.{List}
use Prim.Native.Nat.{ℕ, zero, suc, ◌+◌, ◌-◌, ◌≤◌, ◌<◌}
use native.Mathlib.Omega.{arith}
use borrow.Author.Tests.{ltb-false, not-false}
use lib.Dec.{eqb}
use lib.ListN.{length, replicate}
use Rattle.rules.specs.Sizes.{largest_message}
use Rattle.rules.specs.Framing.{message_type, length_field, header_length}
use Rattle.rules.specs.Types.{among}
use Rattle.rules.specs.Listings.{book, seek_message, is_message, message_of}
use Rattle.rules.specs.Taking.{body_level}
use Rattle.rules.specs.Verdicts.{opening_checks, refused, check, refuses, first}
use Rattle.rules.specs.declared.Verdict.{Verdict}
use Rattle.rules.proofs.Checks.{AllPass, all_pass, check-off}
use Rattle.taking.specs.Held.{no_counts, Few}
use Rattle.taking.specs.declared.Counts.{Counts}
use Rattle.listings.proofs.Levels.{depth}
use Rattle.heading.proofs.Messages.{listed-low, body-level}
use Rattle.pieces.specs.Depth.{deepest}
use Rattle.pieces.specs.Coded.{blank_open, settle_top, idle_by, entry_by, body_by}
use Rattle.pieces.specs.Fits.{Slot, EachSlot, Sized, Fits}
use Rattle.pieces.proofs.Fits.{settle-fits}

-- what a header says that passes checks 1 to 8 for n octets
pub record Heads (k : ℕ) (h : List ℕ) (n : ℕ) : Type 0 where
  pub kind : among k book.kinds ≡ true
  pub most : n ≤ largest_message
  pub has_header : header_length h ≤ n
  pub listed : is_message book (message_type h) ≡ true

off : (a : Bool) (v : Verdict) → refuses v ≡ true → refuses (check a v) ≡ false → a ≡ false
off a v r e = sym (check-off a v r) ∙ e

right-off : (a c : Bool) → a || c ≡ false → c ≡ false
right-off true c e = let z : ◌≡◌ {A = ℕ} 0 1 = cc in absurd (omega arith)
right-off false c e = e

pub heads : (k : ℕ) (h : List ℕ) (n : ℕ) → refuses (first (opening_checks book k h n)) ≡ false → Heads k h n
unfolding AllPass
heads k h n e =
    let a = (all_pass (opening_checks book k h n)).0 e in
    record {
      kind = not-false _ (off _ (refused 1 0) refl a.0);
      most = ltb-false _ _ (right-off (eqb n 0) _ (off _ (refused 2 0) refl a.1.0));
      has_header = ltb-false _ _ (off _ (refused 4 0) refl a.1.1.1.0);
      listed = not-false _ (off _ (refused 7 0) refl a.1.1.1.1.1.1.0);
    }

pub level-low : (h : List ℕ) → is_message book (message_type h) ≡ true → body_level book h < length book.levels
unfolding body_level message_of
level-low h e = (body-level (seek_message book.messages (message_type h)) (listed-low (message_type h) e)).low

none : Slot blank_open
none = record { level = omega (arith, depth); parent = omega arith; home = omega arith }

nones : (n : ℕ) → EachSlot (replicate n blank_open)
nones zero = tt
nones (suc n) = (none, nones n)

pub idle-fits : (k : ℕ) (c : Counts) → Few c 0 → Fits k (idle_by c)
unfolding idle_by
idle-fits k c f = record {
  sized = record {
    slots = refl;
    bytes = refl;
    deep = omega arith;
    have = omega arith;
    each = nones deepest;
    ends = omega arith;
    few = f;
    owns = omega arith;
    spare = omega arith;
    kind = λ l. absurd (omega arith);
  };
  wait = λ a b e. absurd (omega arith);
}

few-none : (n : ℕ) → Few no_counts n
few-none n = record { kept = omega arith; rows = omega arith }

pub entry_sized : (k : ℕ) (h : List ℕ) → Heads k h (length_field h + 4) → Sized k (entry_by h)
unfolding entry_by
entry_sized k h x = record {
  slots = refl;
  bytes = refl;
  deep = omega arith;
  have = omega arith;
  each = (record { level = level-low h x.listed; parent = omega arith; home = omega arith }, nones (deepest - 1));
  ends = omega (arith, x.most, x.has_header);
  few = few-none (header_length h);
  owns = omega arith;
  spare = omega arith;
  kind = λ l. x.kind;
}

entry-have : (h : List ℕ) → (entry_by h).have < 4
unfolding entry_by
entry-have h = omega arith

pub body-fits : (k : ℕ) (h : List ℕ) → Fits k (body_by k h)
unfolding body_by
body-fits k h = go (refuses (first (opening_checks book k h (length_field h + 4)))) refl
  where
    go : (a : Bool) → refuses (first (opening_checks book k h (length_field h + 4))) ≡ a → Fits k (cond a (idle_by no_counts) (settle_top k (entry_by h)))
    go true e = idle-fits k no_counts (few-none 0)
    go false e = settle-fits k (entry_by h) (entry_sized k h (heads k h (length_field h + 4) e)) (entry-have h)
