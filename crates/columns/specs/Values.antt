-- What a viewer sees of a value: its octets, or as many as the rules leave open and that the rest is covered. Assumes nothing.
use Rattle.std.specs.Prelude.{ℕ, Bool, cond, not, ◌&&◌, ◌||◌, List, ◌++◌, eqb, ltb, length, take}
use Rattle.rules.specs.Types.{is_group}
use Rattle.rules.specs.Standing.{kept, void}
use Rattle.rules.specs.Covered.{open_octets}
use Rattle.wording.specs.Pieces.{hexes}
use Rattle.phrases.specs.Words.{words}
use Rattle.phrases.specs.Table.{covers, endings, voids}
use Rattle.phrases.specs.Sentences.{said, narrow}
use Rattle.columns.specs.declared.View.{View}

-- a type of a table, which may hold any number; from 256 on it is like 0, which is no group and not covered
unfoldable pub type_octet : ℕ → ℕ
type_octet t = cond (ltb t 256) t 0

-- a kept group has no value of its own to show, since its inner rows have it
abbrev pub entered : ℕ → ℕ → Bool
entered t s = eqb s kept && is_group t

-- how many leading octets of a value of n are seen, by its type and standing: all with the right to see subscribers, else those left open
unfoldable pub seen_octets : Bool → ℕ → ℕ → ℕ → ℕ
seen_octets right t s n = cond right n (open_octets t s n)

-- octets in hex: 32 at most, so that a row stays one line, unless all are asked for
unfoldable pub octets_text : Bool → List ℕ → List ℕ
octets_text full part = cond (not full && ltb 32 (length part)) (hexes (take 32 part) ++ words "..") (hexes part)

module _ (names run : List ℕ) where
  -- a value of which n octets are seen
  unfoldable pub value_text : Bool → ℕ → List ℕ → List ℕ
  value_text full n part = cond (eqb n (length part)) (octets_text full part) (hexes (take n part) ++ said names run covers (narrow n))

  -- the standing of a row, in a column if a value follows; of a void group no octet is shown, and why it is set aside stands there instead
  unfoldable pub ending : View → ℕ → ℕ → List ℕ → List ℕ
  ending w t s part =
      cond (eqb s void) (said names run endings 1 ++ said names run voids s)
      (cond (entered t s || eqb (length part) 0) (said names run endings 0)
      (said names run endings 1 ++ value_text w.full (seen_octets w.right t s (length part)) part))
