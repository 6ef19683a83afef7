-- Functions that stand in for the desk's exports: what it means that one meets its contract. They are asked no more than the code is. Assumes nothing.
use Rattle.std.specs.Prelude.{◌≡◌, true, List, ℕ, ltb}
use Rattle.promises.specs.StandIns.{octet_bound, Given, below}
use Rattle.wokdesk.specs.Pages.{Paged, Called}

-- how many octets were put, and what is left of the buffer
pub record Put : Type 0 where
  pub answer : ℕ
  pub left : List ℕ

-- from kind, right, full, message and page
abbrev pub Show : Type 0
Show = ℕ → ℕ → ℕ → List ℕ → List ℕ → Put

pub record GivenView (k right full : ℕ) (m page : List ℕ) : Type 0 where
  pub lent : Given octet_bound k m page
  pub right_octet : ltb right octet_bound ≡ true
  pub full_octet : ltb full octet_bound ≡ true

abbrev pub IsShow : Show → Type 0
IsShow f = (k right full : ℕ) (m page : List ℕ) → GivenView k right full m page → Paged k right full m page (f k right full m page).answer (f k right full m page).left

-- from what, number and name
abbrev pub Name : Type 0
Name = ℕ → ℕ → List ℕ → Put

pub record GivenName (what n : ℕ) (name : List ℕ) : Type 0 where
  pub what_octet : ltb what octet_bound ≡ true
  pub number_octet : ltb n octet_bound ≡ true
  pub octets : below octet_bound name ≡ true

abbrev pub IsName : Name → Type 0
IsName f = (what n : ℕ) (name : List ℕ) → GivenName what n name → Called what n name (f what n name).answer (f what n name).left
