-- What the code makes of a value's elements: a limit is ten APNs, wherever the listings have one. Assumes nothing.
use Rattle.std.specs.Prelude.{◌≡◌, Bool, true, false, cond, ◌&&◌, List, [], ◌∷◌, ℕ, ◌+◌, ◌≤◌, eqb, ltb, length}
use Rattle.rules.specs.Listings.{Limit, Line}
use Rattle.rules.specs.Sound.{every_line}
use Rattle.rules.specs.Frames.{filled_by, frames_by, tally}

-- 71/0
abbrev pub apn : ℕ
apn = 71

abbrev pub most_apns : ℕ
most_apns = 10

-- one more if the pair t/i is that of an APN
abbrev pub apns_of : ℕ → ℕ → ℕ
apns_of t i = cond (eqb t apn && eqb i 0) 1 0

-- elements fill the octets, and with the n that came before more than ten of them are APNs
unfoldable pub crowd_from : ℕ → List ℕ → Bool
crowd_from n xs = filled_by (length xs) xs && ltb most_apns (n + tally apn 0 (frames_by (length xs) xs))

unfoldable pub crowd : List ℕ → Bool
crowd xs = crowd_from 0 xs

-- a line has no limit, or this one
abbrev pub only_apns : List Limit → Bool
only_apns [] = true
only_apns (l ∷ []) = eqb l.typ apn && eqb l.inst 0 && eqb l.most most_apns
only_apns (l ∷ (l' ∷ ls)) = false

-- and so have all lines of these levels
unfoldable pub apns_alone : List (List Line) → Bool
apns_alone [] = true
apns_alone (ls ∷ more) = every_line (λ l. only_apns l.limits) ls && apns_alone more

-- ---- the parts of contracts

pub record IsApn (t i r : ℕ) : Type 0 where
  pub is : r ≡ apns_of t i
  pub low : r ≤ 1
