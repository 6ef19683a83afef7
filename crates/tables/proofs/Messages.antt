-- What was walked of a message: its rows stand among themselves, each at the level of its parent's inside, behind its parent; and the body of a listed
-- message is a level. Assumes nothing.
use mathlib.Core.Path.{◌≡◌, refl}
use mathlib.Core.Bool.{true, false, not, ◌&&◌}
use mathlib.Core.List.{List, [], ◌∷◌}
use Prim.Native.Nat.{ℕ, zero, suc, ◌+◌, ◌≤◌, ◌<◌}
use native.Mathlib.Omega.{arith}
use native.Mathlib.Nat.{pos_of_ne-zero}
use borrow.Author.Tests.{ltb-true, eqb-false}
use lib.Dec.{eqb, ltb}
use lib.ListN.{length, drop, get_or}
use Rattle.rules.specs.Framing.{header_length, message_type}
use Rattle.rules.specs.Listings.{Book, Message, no_message, seek_message, message_of, is_message}
use Rattle.rules.specs.Standing.{Item, fresh}
use Rattle.rules.specs.Taking.{whole, taken, body_level}
use Rattle.rules.specs.Sound.{every_level, every_message, sound}
use Rattle.rules.proofs.Lines.{and_left, and_right}
use Rattle.rules.specs.Table.{nth}
use Rattle.rules.proofs.Rows.{Every, body-met}
use Rattle.rules.proofs.Places.{Stand}
use Rattle.rules.proofs.Walked.{Walked, met-walked}
use Rattle.tables.proofs.Tests.{un_not}
use Rattle.tables.proofs.Placed.{Placed, placed, Backward, backward, backward-at}

message-at : (n : ℕ) (xs : List Message) → every_message n xs ≡ true → (j : ℕ) → j < length xs → eqb (get_or xs j no_message).body 0 ≡ false
unfolding every_message
message-at n [] e j l = absurd (omega arith)
message-at n (x ∷ xs) e zero l =
    un_not (eqb x.body 0) (and_left (not (eqb x.body 0)) (ltb x.body n) (and_left (not (eqb x.body 0) && ltb x.body n) (every_message n xs) e))
message-at n (x ∷ xs) e (suc j) l = message-at n xs (and_right (not (eqb x.body 0) && ltb x.body n) (every_message n xs) e) j (omega arith)

-- the elements es were walked of the message's body
abbrev pub WalkedOf : Book → ℕ → List ℕ → List Item → Type 0
WalkedOf b k m es = Walked b k (body_level b m) fresh 0 0 (header_length m) (drop (header_length m) m) es

-- and of a whole message all of them were
pub walked-of : (b : Book) (k : ℕ) (m : List ℕ) (es : List Item) → taken b k m ≡ whole es → WalkedOf b k m es
walked-of b k m es e = met-walked (body-met b k m es e)

module _ (b : Book) (fine : sound b ≡ true) (k : ℕ) (m : List ℕ) where
  -- the body of a listed message is a level
  pub body-level : is_message b (message_type m) ≡ true → eqb (body_level b m) 0 ≡ false
  unfolding sound is_message body_level message_of
  body-level e =
      message-at (length b.levels) b.messages (and_right (every_level (length b.levels) b.levels) (every_message (length b.levels) b.messages) fine)
      (seek_message b.messages (message_type m)) (ltb-true _ _ e)

  some_level : is_message b (message_type m) ≡ true → 0 < body_level b m
  some_level e = pos_of_ne-zero (eqb-false (body_level b m) 0 (body-level e))

  module _ (es : List Item) (d : WalkedOf b k m es) where
    pub all-stand : Stand es 0 es
    all-stand = record { room = omega arith; same = λ j l. let z : 0 + j ≡ j = omega arith in rw z }

    pub all_placed : is_message b (message_type m) ≡ true → Every (Placed b k (body_level b m) es) es
    all_placed l = placed d es (body_level b m) all-stand refl (some_level l)

    pub all-backward : Backward 0 es
    all-backward = backward d (omega arith)

    pub parent-before : (r : ℕ) → r < length es → (nth es r).parent ≤ r
    parent-before r l = omega (arith, backward-at 0 es all-backward r l)
