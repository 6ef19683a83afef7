-- Clearing a message that is laid over a longer copy is laying the cleared message. Assumes nothing.
use mathlib.Core.Path.{◌≡◌, refl, ◌∙◌}
use mathlib.Core.List.{List, [], ◌∷◌, ◌++◌, append_assoc}
use Prim.Native.Nat.{ℕ, ◌+◌, ◌-◌, ◌≤◌}
use native.Mathlib.Omega.{arith}
use lib.ListN.{length, drop, length-append, length-take, length-drop, length-replicate}
use lib.Seq.{take-append-le, drop-append-le}
use Rattle.rules.specs.Standing.{Item, value_place, value_end}
use Rattle.rules.specs.Table.{laid}
use Rattle.rules.specs.Framing.{element_header}
use Rattle.rules.specs.Frames.{Frame}
use Rattle.rules.specs.Covered.{open_octets, zeroed, own_cleared, inside_cleared, cleared, clear_all}
use Rattle.rules.proofs.Frames.{span}
use Rattle.rules.proofs.Rows.{Every}
use Rattle.facts.proofs.Facts.{open_most}

module _ (m rest : List ℕ) (a n : ℕ) (fits : a + n ≤ length m) where
  zeroed-front : zeroed (m ++ rest) a n ≡ zeroed m a n ++ rest
  unfolding zeroed
  zeroed-front =
      let h : a ≤ length m = omega arith in
      rw (take-append-le a m rest h, drop-append-le (a + n) m rest fits) (simp append_assoc)

  zeroed-length : length (zeroed m a n) ≡ length m
  unfolding zeroed
  zeroed-length = simp (length-append, length-take, length-replicate, length-drop) (omega arith)

-- the values of elements inside
inside-length : (fs : List Frame) (m : List ℕ) (a : ℕ) → a + span fs ≤ length m → length (inside_cleared m a fs) ≡ length m
unfolding inside_cleared span
inside-length [] m a l = refl
inside-length (f ∷ fs) m a l =
    let z = zeroed-length m [] (a + element_header) f.len (omega arith) in
    inside-length fs (zeroed m (a + element_header) f.len) (a + element_header + f.len) (omega (arith, z)) ∙ z

inside-front : (fs : List Frame) (m rest : List ℕ) (a : ℕ) → a + span fs ≤ length m → inside_cleared (m ++ rest) a fs ≡ inside_cleared m a fs ++ rest
unfolding inside_cleared span
inside-front [] m rest a l = refl
inside-front (f ∷ fs) m rest a l =
    rw (zeroed-front m rest (a + element_header) f.len (omega arith))
    (inside-front fs (zeroed m (a + element_header) f.len) rest (a + element_header + f.len) (omega (arith, zeroed-length m [] (a + element_header) f.len (omega arith))))

-- every value ends within n octets
abbrev pub Ending : ℕ → List Item → Type 0
Ending n is = Every (λ i. value_end i ≤ n) is

-- and what is hidden inside it lies in it
abbrev pub Holding : List Item → Type 0
Holding is = Every (λ i. span i.hidden ≤ i.len) is

module _ (m rest : List ℕ) (i : Item) (e : value_end i ≤ length m) (h : span i.hidden ≤ i.len) where
  fits : value_place i + open_octets i.typ i.stand i.len + (i.len - open_octets i.typ i.stand i.len) ≤ length m
  fits = omega (arith, open_most i.typ i.stand i.len)

  own-length : length (own_cleared m i) ≡ length m
  own-length = zeroed-length m rest _ _ fits

  lies : value_place i + span i.hidden ≤ length (own_cleared m i)
  lies = omega (arith, own-length)

  cleared-front : cleared (m ++ rest) i ≡ cleared m i ++ rest
  cleared-front = rw (zeroed-front m rest _ _ fits) (inside-front i.hidden (own_cleared m i) rest (value_place i) lies)

  cleared-length : length (cleared m i) ≡ length m
  cleared-length = inside-length i.hidden (own_cleared m i) (value_place i) lies ∙ own-length

clear-front : (m rest : List ℕ) (is : List Item) → Ending (length m) is → Holding is → clear_all (m ++ rest) is ≡ clear_all m is ++ rest
unfolding clear_all Every
clear-front m rest [] e h = refl
clear-front m rest (i ∷ is) e h =
    rw (cleared-front m rest i e.0 h.0) (clear-front (cleared m i) rest is (rw (cleared-length m rest i e.0 h.0) e.1) h.1)

clear-length : (m : List ℕ) (is : List Item) → Ending (length m) is → Holding is → length (clear_all m is) ≡ length m
unfolding clear_all Every
clear-length m [] e h = refl
clear-length m (i ∷ is) e h =
    let s = cleared-length m [] i e.0 h.0 in clear-length (cleared m i) is (rw s e.1) h.1 ∙ s

pub clear-laid : (m copy : List ℕ) (is : List Item) → Ending (length m) is → Holding is → clear_all (laid m copy) is ≡ laid (clear_all m is) copy
unfolding laid
clear-laid m copy is e h = rw (clear-length m is e h) (clear-front m (drop (length m) copy) is e h)
