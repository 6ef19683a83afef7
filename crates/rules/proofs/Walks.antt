-- The walk does not depend on the number of turns once there are enough, so nobody looks at turns again. Assumes nothing.
--     walk_nil   nothing is left        walk-cut   no whole element stands at the head       walk_more   one element more
--     alongside  two walks that make related things of each element come to related outcomes
use mathlib.Core.Path.{◌≡◌, refl, ap, ◌∙◌}
use mathlib.Core.Bool.{Bool, true, false, cond}
use mathlib.Core.List.{List, [], ◌∷◌}
use Prim.Native.Nat.{ℕ, zero, suc, ◌+◌, ◌≤◌, ◌<◌}
use native.Mathlib.Omega.{arith}
use lib.ListN.{length, take, drop, length-take, length-drop}
use Rattle.rules.specs.Framing.{element_header}
use Rattle.rules.specs.Listings.{Book}
use Rattle.rules.specs.Standing.{Item, fresh, item_of, marked, entered}
use Rattle.rules.specs.Taking.{Out, cut, whole, after, Walker, enter, step, run, walk, inside}
use Rattle.rules.specs.Frames.{Element, seen}

after_cong : {S : Type 0} (o : Out S) (f g : S → Out S) → ((s : S) → f s ≡ g s) → after o f ≡ after o g
after_cong (cut q s) f g e = refl
after_cong (whole s) f g e = e s

cond_cong : {A : Type 0} (b : Bool) (x y z : A) → x ≡ y → cond b x z ≡ cond b y z
cond_cong true x y z e = e
cond_cong false x y z e = refl

pub inside_shorter : (n : ℕ) (xs : List ℕ) → 0 < length xs → length (take n (drop element_header xs)) < length xs
inside_shorter n xs h = simp (length-take, length-drop) (omega arith)

pub rest_shorter : (n : ℕ) (xs : List ℕ) → 0 < length xs → length (drop (element_header + n) xs) < length xs
rest_shorter n xs h = simp length-drop (omega arith)

module _ (b : Book) (k : ℕ) (S : Type 0) (one : S → Item → S) (shut : S → ℕ → List ℕ → ℕ → S) (number : S → ℕ) where
  -- two walkers that agree on fewer than n octets
  abbrev Agree : Walker b k S one shut number → Walker b k S one shut number → ℕ → Type 0
  Agree f g n = (v : ℕ) (m : List ℕ) (p o at : ℕ) (xs : List ℕ) (s : S) → length xs < n → f v m p o at xs s ≡ g v m p o at xs s

  enter_cong : (f g : Walker b k S one shut number) (n : ℕ) → Agree f g n → (v at : ℕ) (xs : List ℕ) (s : S) → length xs < n
      → enter b k S one shut number f v at xs s ≡ enter b k S one shut number g v at xs s
  enter_cong f g n e zero at xs s h = refl
  enter_cong f g n e (suc v) at xs s h = e (suc v) fresh (number s) at (at + element_header) xs s h

  step_cong : (f g : Walker b k S one shut number) (v : ℕ) (m : List ℕ) (p o at : ℕ) (xs : List ℕ) (h : Element) (s : S)
      → Agree f g (length xs) → 0 < length xs → step b k S one shut number f v m p o at xs h s ≡ step b k S one shut number g v m p o at xs h s
  step_cong f g v m p o at xs h s e pos =
      let part = take h.len (drop element_header xs) in
      let s₁ = one s (item_of b k v m p at h) in
      cond_cong h.whole _ _ _
      (ap (λ (r : Out S). after r (f v (marked b k v m h) p o (at + element_header + h.len) (drop (element_header + h.len) xs)))
      (enter_cong f g (length xs) e (entered b k v m h) at part s₁ (inside_shorter h.len xs pos))
      ∙ after_cong (enter b k S one shut number g (entered b k v m h) at part s₁) _ _
      (λ t. e v (marked b k v m h) p o (at + element_header + h.len) (drop (element_header + h.len) xs) t (rest_shorter h.len xs pos)))

  pub enough : (f g : ℕ) (v : ℕ) (m : List ℕ) (p o at : ℕ) (xs : List ℕ) (s : S) → length xs ≤ f → length xs ≤ g
      → run b k S one shut number f v m p o at xs s ≡ run b k S one shut number g v m p o at xs s
  unfolding run
  enough zero zero v m p o at xs s hf hg = refl
  enough zero (suc g) v m p o at [] s hf hg = refl
  enough zero (suc g) v m p o at (x ∷ xs) s hf hg = absurd (omega arith)
  enough (suc f) zero v m p o at [] s hf hg = refl
  enough (suc f) zero v m p o at (x ∷ xs) s hf hg = absurd (omega arith)
  enough (suc f) (suc g) v m p o at [] s hf hg = refl
  enough (suc f) (suc g) v m p o at (x ∷ xs) s hf hg =
      step_cong (run b k S one shut number f) (run b k S one shut number g) v m p o at (x ∷ xs) (seen (x ∷ xs)) s
      (λ v' m' p' o' at' ys t lt. enough f g v' m' p' o' at' ys t (omega arith) (omega arith))
      (omega arith)

  pub walk_nil : (v : ℕ) (m : List ℕ) (p o at : ℕ) (xs : List ℕ) (s : S) → length xs ≡ 0 → walk b k S one shut number v m p o at xs s ≡ whole (shut s v m o)
  unfolding walk run
  walk_nil v m p o at [] s h = refl
  walk_nil v m p o at (x ∷ xs) s h = absurd (omega arith)

  walk_step : (v : ℕ) (m : List ℕ) (p o at : ℕ) (xs : List ℕ) (s : S) → 0 < length xs
      → walk b k S one shut number v m p o at xs s ≡ step b k S one shut number (walk b k S one shut number) v m p o at xs (seen xs) s
  unfolding walk run
  walk_step v m p o at [] s h = absurd (omega arith)
  walk_step v m p o at (x ∷ xs) s h =
      step_cong (run b k S one shut number (length xs)) (walk b k S one shut number) v m p o at (x ∷ xs) (seen (x ∷ xs)) s
      (λ v' m' p' o' at' ys t lt. enough (length xs) (length ys) v' m' p' o' at' ys t (omega arith) (omega arith))
      h

  pub walk-cut : (v : ℕ) (m : List ℕ) (p o at : ℕ) (xs : List ℕ) (s : S) → 0 < length xs → (seen xs).whole ≡ false
      → walk b k S one shut number v m p o at xs s ≡ cut at s
  walk-cut v m p o at xs s pos e = walk_step v m p o at xs s pos ∙ rw e

  pub walk_more : (v : ℕ) (m : List ℕ) (p o at : ℕ) (xs : List ℕ) (s : S) → 0 < length xs → (seen xs).whole ≡ true
      → walk b k S one shut number v m p o at xs s
      ≡ after
      (inside b k S one shut number (entered b k v m (seen xs)) at (take (seen xs).len (drop element_header xs)) (one s (item_of b k v m p at (seen xs))))
      (walk b k S one shut number v (marked b k v m (seen xs)) p o (at + element_header + (seen xs).len) (drop (element_header + (seen xs).len) xs))
  unfolding inside
  walk_more v m p o at xs s pos e = walk_step v m p o at xs s pos ∙ rw e

  pub in_none : (at : ℕ) (xs : List ℕ) (s : S) → inside b k S one shut number 0 at xs s ≡ whole s
  unfolding inside
  in_none at xs s = refl

  pub in_some : (g at : ℕ) (xs : List ℕ) (s : S)
      → inside b k S one shut number (suc g) at xs s ≡ walk b k S one shut number (suc g) fresh (number s) at (at + element_header) xs s
  unfolding inside
  in_some g at xs s = refl

-- ---- two walks side by side

-- both are cut at one place or both are whole, and what was made is related
pub data Alike {S S' : Type 0} (R : S → S' → Type 0) : Out S → Out S' → Type 0 where
  cuts : {q : ℕ} {s : S} {s' : S'} → R s s' → Alike R (cut q s) (cut q s')
  wholes : {s : S} {s' : S'} → R s s' → Alike R (whole s) (whole s')

alike-after : {S S' : Type 0} {R : S → S' → Type 0} {o : Out S} {o' : Out S'} (f : S → Out S) (f' : S' → Out S')
    → Alike R o o' → ((s : S) (s' : S') → R s s' → Alike R (f s) (f' s')) → Alike R (after o f) (after o' f')
alike-after f f' (cuts r) e = cuts r
alike-after f f' (wholes {s = s} {s' = s'} r) e = e s s' r

alike-cond : {S S' : Type 0} {R : S → S' → Type 0} {o c : Out S} {o' c' : Out S'} (w : Bool)
    → Alike R o o' → Alike R c c' → Alike R (cond w o c) (cond w o' c')
alike-cond true x y = x
alike-cond false x y = y

module _ (b : Book) (k : ℕ)
    (S : Type 0) (one : S → Item → S) (shut : S → ℕ → List ℕ → ℕ → S) (number : S → ℕ)
    (S' : Type 0) (one' : S' → Item → S') (shut' : S' → ℕ → List ℕ → ℕ → S') (number' : S' → ℕ)
    (R : S → S' → Type 0)
    (r-one : (s : S) (s' : S') (i : Item) → R s s' → R (one s i) (one' s' i))
    (r-shut : (s : S) (s' : S') (v : ℕ) (m : List ℕ) (o : ℕ) → R s s' → R (shut s v m o) (shut' s' v m o))
    (r-number : (s : S) (s' : S') → R s s' → number s ≡ number' s') where
  abbrev Beside : Walker b k S one shut number → Walker b k S' one' shut' number' → Type 0
  Beside f f' = (v : ℕ) (m : List ℕ) (p o at : ℕ) (xs : List ℕ) (s : S) (s' : S') → R s s' → Alike R (f v m p o at xs s) (f' v m p o at xs s')

  enter-beside : (f : Walker b k S one shut number) (f' : Walker b k S' one' shut' number') → Beside f f'
      → (v o : ℕ) (xs : List ℕ) (s : S) (s' : S') → R s s'
      → Alike R (enter b k S one shut number f v o xs s) (enter b k S' one' shut' number' f' v o xs s')
  enter-beside f f' e zero o xs s s' r = wholes r
  enter-beside f f' e (suc v) o xs s s' r = rw (r-number s s' r) (e (suc v) fresh (number' s') o (o + element_header) xs s s' r)

  step-beside : (f : Walker b k S one shut number) (f' : Walker b k S' one' shut' number') → Beside f f'
      → (v : ℕ) (m : List ℕ) (p o at : ℕ) (xs : List ℕ) (h : Element) (s : S) (s' : S') → R s s'
      → Alike R (step b k S one shut number f v m p o at xs h s) (step b k S' one' shut' number' f' v m p o at xs h s')
  step-beside f f' e v m p o at xs h s s' r =
      let i = item_of b k v m p at h in
      alike-cond h.whole
      (alike-after _ _
      (enter-beside f f' e (entered b k v m h) at (take h.len (drop element_header xs)) (one s i) (one' s' i) (r-one s s' i r))
      (λ t t' q. e v (marked b k v m h) p o (at + element_header + h.len) (drop (element_header + h.len) xs) t t' q))
      (cuts r)

  run-beside : (n : ℕ) → Beside (run b k S one shut number n) (run b k S' one' shut' number' n)
  unfolding run
  run-beside zero v m p o at xs s s' r = wholes (r-shut s s' v m o r)
  run-beside (suc n) v m p o at [] s s' r = wholes (r-shut s s' v m o r)
  run-beside (suc n) v m p o at (x ∷ xs) s s' r =
      step-beside (run b k S one shut number n) (run b k S' one' shut' number' n) (run-beside n) v m p o at (x ∷ xs) (seen (x ∷ xs)) s s' r

  pub alongside : (v : ℕ) (m : List ℕ) (p o at : ℕ) (xs : List ℕ) (s : S) (s' : S') → R s s'
      → Alike R (walk b k S one shut number v m p o at xs s) (walk b k S' one' shut' number' v m p o at xs s')
  unfolding walk
  alongside v m p o at xs s s' r = run-beside (length xs) v m p o at xs s s' r
