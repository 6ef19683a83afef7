-- Texts by section and number: what a text is made of, and which one a number has. Assumes nothing.
use Rattle.std.specs.Prelude.{ℕ, ◌+◌, ◌*◌, cond, ◌||◌, List, [], ◌∷◌, ◌++◌, eqb, ltb}
use Prim.Native.String.{String}
use Rattle.phrases.specs.Words.{words}

-- a piece of a text: words, or a slot to be filled
pub data Piece : Type 0 where
  say : String → Piece
  slot : ℕ → Piece

-- words are octets under 128, and a slot is one octet from there on
abbrev pub slot_octet : ℕ → ℕ
slot_octet n = 128 + n

unfoldable pub octets_of : List Piece → List ℕ
octets_of [] = []
octets_of (say w ∷ ps) = words w ++ octets_of ps
octets_of (slot n ∷ ps) = slot_octet n ∷ octets_of ps

pub record Text : Type 0 where
  pub section : ℕ
  pub number : ℕ
  pub pieces : List Piece

-- the number of a section's text for every number that has none of its own
abbrev pub every : ℕ
every = 255

-- section and number as one; a number from 255 on has no text of its own
abbrev pub key_for : ℕ → ℕ → ℕ
key_for s n = 256 * s + cond (ltb n every) n every

abbrev pub key_of : Text → ℕ
key_of t = 256 * t.section + t.number

-- the first text that has the key, or is its section's text for every number
unfoldable pub text_in : List Text → ℕ → ℕ → List ℕ
text_in [] key rest = []
text_in (t ∷ ts) key rest = cond (eqb (key_of t) key || eqb (key_of t) rest) (octets_of t.pieces) (text_in ts key rest)
