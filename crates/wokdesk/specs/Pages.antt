-- What `wok_show` and `wok_name` answer and leave. Assumes nothing.
use Rattle.std.specs.Prelude.{◌≡◌, ℕ, cond, List, [], eqb, length, take}
use Rattle.rules.specs.Table.{laid}
use Rattle.phrases.specs.Table.{messages, text_for}
use Rattle.phrases.specs.Names.{element_name}
use Rattle.columns.specs.declared.View.{View}
use Rattle.showing.specs.Showing.{page_on}
use Rattle.wokdesk.specs.Names.{names}

-- 1 means yes, of the right to see subscribers and of values whole
abbrev pub view_of : ℕ → ℕ → ℕ → View
view_of k right full = record { kind = k; right = eqb right 1; full = eqb full 1 }

unfoldable pub page_for : ℕ → ℕ → ℕ → List ℕ → List ℕ
page_for k right full m = page_on names (view_of k right full) m

-- How much of the page there is room for, and the buffer with that over its start.
pub record Paged (k right full : ℕ) (message page : List ℕ) (answer : ℕ) (page' : List ℕ) : Type 0 where
  pub answers : answer ≡ length (take (length page) (page_for k right full message))
  pub page_left : page' ≡ laid (take (length page) (page_for k right full message)) page

-- the name of an element for 0, of a message for 1, and none for anything else
unfoldable pub name_for : ℕ → ℕ → List ℕ
name_for what n = cond (eqb what 0) (element_name names n) (cond (eqb what 1) (text_for messages n) [])

-- The same of a name.
pub record Called (what n : ℕ) (name : List ℕ) (answer : ℕ) (name' : List ℕ) : Type 0 where
  pub answers : answer ≡ length (take (length name) (name_for what n))
  pub name_left : name' ≡ laid (take (length name) (name_for what n)) name
