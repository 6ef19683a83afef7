-- A void group as it is met octet by octet: its inside is taken as though the group were kept, and taken back at its end if it held too much. Assumes nothing.
use Rattle.std.specs.Prelude.{ℕ, Bool, cond, List, [], ◌∷◌, eqb}
use Rattle.rules.specs.Frames.{Frame, Element}
use Rattle.rules.specs.Standing.{Item}
use Rattle.rules.specs.Taking.{Out, cut, whole}

-- an element before its inside is there: nothing stands in it yet
abbrev pub blind : Element → Element
blind h = record { whole = h.whole; typ = h.typ; inst = h.inst; len = h.len; first = h.first; within = [] }

-- what was made of an inside, or what there is instead if it is taken back; a cut stays a cut
abbrev pub taken_back : {S : Type 0} → Bool → S → Out S → Out S
taken_back c t (cut q s) = cut q s
taken_back c t (whole s) = whole (cond c t s)

-- the rows directly inside the group with row number p, as their headers say
unfoldable pub directs : ℕ → List Item → List Frame
directs p [] = []
directs p (i ∷ is) = cond (eqb i.parent p) (record { typ = i.typ; inst = i.inst; len = i.len } ∷ directs p is) (directs p is)
