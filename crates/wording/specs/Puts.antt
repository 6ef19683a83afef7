-- Text put into a lent buffer octet by octet, as far as the buffer reaches. Assumes nothing.
use Rattle.std.specs.Prelude.{◌≡◌, ℕ, ◌+◌, cond, List, [], ◌∷◌, ltb, length, set}

-- where the next octet goes, and the buffer
pub record Paper : Type 0 where
  pub at : ℕ
  pub out : List ℕ

unfoldable pub put_one : ℕ → Paper → Paper
put_one x p = cond (ltb p.at (length p.out)) (record { at = p.at + 1; out = set p.out p.at x }) p

unfoldable pub puts : List ℕ → Paper → Paper
puts [] p = p
puts (x ∷ t) p = puts t (put_one x p)

-- the text is put at a place of a buffer
pub record Puts (text : List ℕ) (at₀ : ℕ) (out₀ : List ℕ) (at₁ : ℕ) (out₁ : List ℕ) : Type 0 where
  pub done : puts text (record { at = at₀; out = out₀ }) ≡ record { at = at₁; out = out₁ }
