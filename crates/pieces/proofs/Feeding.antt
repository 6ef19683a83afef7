-- What is held after the octets p of a message is what a formula over p says, so the cutting into parts does not matter. Assumes nothing.
--     feed-on     one octet more          fed-is     after all octets          parts-are     after all parts
use mathlib.Core.Path.{◌≡◌, refl, sym, ap, ◌∙◌}
use mathlib.Core.Bool.{Bool, true, false, cond}
use mathlib.Core.List.{List, [], ◌∷◌, ◌++◌, append_assoc, append-nil}
use Prim.Native.Nat.{ℕ, suc, ◌-◌, ◌≤◌, ◌<◌}
use native.Mathlib.Omega.{arith}
use native.Mathlib.Nat.{pos_of_ne-zero}
use borrow.Author.Tests.{ltb-true, ltb-false, eqb-true, eqb-false, lt-ltb, le-ltb}
use lib.Dec.{eqb, ltb}
use lib.ListN.{length, take, drop, length-append, drop_of_length-le, get_or-append}
use lib.Seq.{get_or-take, take_all, take-append-le, drop-append-le}
use Rattle.rules.specs.Sizes.{largest_message}
use Rattle.rules.specs.Framing.{octet, version, flag_p, flag_t, message_type, length_field, header_length}
use Rattle.rules.specs.Listings.{Book, book, message_of}
use Rattle.rules.specs.Taking.{body_level}
use Rattle.rules.specs.Verdicts.{opening_checks, header_checks}
use Rattle.rules.proofs.Rows.{header-least}
use Rattle.pieces.specs.Steps.{Walking, eat, eat_all}
use Rattle.pieces.specs.Depth.{deepest}
use Rattle.pieces.specs.Drafts.{Draft, one_draft, shut_draft, draft_rows}
use Rattle.pieces.specs.Feeding.{count_on, Feed, idle, body, head_on, in_header, feed, feed_all, feed_parts, joined_parts}
use Rattle.pieces.proofs.Steps.{cut_anywhere}

-- ---- the header is in the first four octets

module _ (p : List ℕ) where
  four-octet : (j : ℕ) → j < 4 → octet (take 4 p) j ≡ octet p j
  four-octet j l = get_or-take 4 p j 0 l

  pub four-version : version (take 4 p) ≡ version p
  unfolding version
  four-version = rw (four-octet 0 (omega arith))

  pub four-p : flag_p (take 4 p) ≡ flag_p p
  unfolding flag_p
  four-p = rw (four-octet 0 (omega arith))

  pub four-t : flag_t (take 4 p) ≡ flag_t p
  unfolding flag_t
  four-t = rw (four-octet 0 (omega arith))

  pub four_type : message_type (take 4 p) ≡ message_type p
  unfolding message_type
  four_type = rw (four-octet 1 (omega arith))

  pub four-length : length_field (take 4 p) ≡ length_field p
  unfolding length_field
  four-length = rw (four-octet 2 (omega arith), four-octet 3 (omega arith))

  pub four-header : header_length (take 4 p) ≡ header_length p
  unfolding header_length
  four-header = rw four-t

  pub four-body : body_level book (take 4 p) ≡ body_level book p
  unfolding body_level
  four-body = ap (λ (t : ℕ). (message_of book t).body) four_type

  pub four_checks : (b : Book) (k n : ℕ) → opening_checks b k (take 4 p) n ≡ opening_checks b k p n
  four_checks b k n = rw (four-version, four-header, four-p, four-length, four_type, four-t)

  pub own-length : (b : Book) (k : ℕ) → opening_checks b k p (length p) ≡ header_checks b k p
  unfolding header_checks
  own-length b k = refl

  pub header-most : header_length p ≤ 12
  unfolding header_length
  header-most = go (flag_t p)
    where
      go : (c : Bool) → cond c 12 8 ≤ 12
      go true = omega arith
      go false = omega arith

-- the header's length does not change once there is an octet
pub header-same : (p r : List ℕ) → 0 < length p → header_length (p ++ r) ≡ header_length p
unfolding header_length flag_t
header-same p r l = rw (get_or-append p r 0 0 l)

-- ---- the count

unfoldable pub counted : ℕ → ℕ
counted n = cond (ltb largest_message n) 4097 n

pub counted-low : (n : ℕ) → n ≤ 4096 → counted n ≡ n
unfolding counted
counted-low n l = rw (le-ltb 4096 n l)

pub counted-high : (n : ℕ) → 4096 < n → counted n ≡ 4097
unfolding counted
counted-high n l = rw (lt-ltb 4096 n l)

pub counted-least : (n h : ℕ) → h ≤ n → h ≤ 4097 → h ≤ counted n
unfolding counted
counted-least n h l m = go (ltb largest_message n)
  where
    go : (c : Bool) → h ≤ cond c 4097 n
    go true = m
    go false = l

pub count-on : (n : ℕ) → count_on (counted n) ≡ counted (suc n)
unfolding count_on
count-on n = go (ltb 4096 n) refl (ltb 4096 (suc n)) refl
  where
    go : (c : Bool) → ltb 4096 n ≡ c → (d : Bool) → ltb 4096 (suc n) ≡ d → cond (ltb largest_message (counted n)) (counted n) (suc (counted n)) ≡ counted (suc n)
    go true e d f = let l : 4096 < n = ltb-true _ _ e in rw (counted-high n l, counted-high (suc n) (omega arith))
    go false e true f =
        let l : n ≤ 4096 = ltb-false _ _ e in
        let m : 4096 < suc n = ltb-true _ _ f in
        rw (counted-low n l, counted-high (suc n) m, le-ltb 4096 n l) (omega arith)
    go false e false f =
        let l : suc n ≤ 4096 = ltb-false _ _ f in
        rw (counted-low n (omega arith), counted-low (suc n) l, le-ltb 4096 n (omega arith))

-- ---- after the octets p

module _ (k : ℕ) (s : Draft) where
  abbrev eats : Walking Draft → List ℕ → Walking Draft
  eats = eat_all book k Draft one_draft (shut_draft k) draft_rows deepest

  unfoldable pub walking_after : List ℕ → Walking Draft
  walking_after p = cond (ltb (length p) (header_length p)) (idle k s) (eats (body k (take 4 p) s) (drop (header_length p) p))

  unfoldable pub feed_after : List ℕ → Feed
  feed_after p = record { kind = k; head = take 4 p; count = counted (length p); walking = walking_after p }

  module _ (p : List ℕ) (x : ℕ) where
    abbrev q : List ℕ
    q = p ++ (x ∷ [])

    longer : length q ≡ suc (length p)
    longer = length-append p (x ∷ []) ∙ omega arith

    head-on : head_on (take 4 p) (length p) x ≡ take 4 q
    unfolding head_on
    head-on = go (ltb (length p) 4) refl
      where
        go : (c : Bool) → ltb (length p) 4 ≡ c → cond c (take 4 p ++ (x ∷ [])) (take 4 p) ≡ take 4 q
        go true e =
            let l : length p < 4 = ltb-true _ _ e in
            rw (take_all 4 p (omega arith), take_all 4 q (omega (arith, longer)))
        go false e = let l : 4 ≤ length p = ltb-false _ _ e in sym (take-append-le 4 p (x ∷ []) l)

    -- the header goes on, or is whole with this octet
    reaches : length p < header_length p → (header_length q ≡ suc (length p) → ⊥) → length q < header_length q
    reaches l n = go p refl
      where
        go : (r : List ℕ) → r ≡ p → length q < header_length q
        go [] e = omega (arith, header-least q, longer, ap length e)
        go (y ∷ r) e =
            let pos : 0 < length p = rw (← e) (omega arith) in
            let h = header-same p (x ∷ []) pos in
            let d = pos_of_ne-zero {n = header_length q - suc (length p)} (λ z. n (omega (arith, h))) in
            omega (arith, h, longer)

    pub walk-on : length p < header_length p → cond (eqb (suc (length p)) (header_length q)) (body k (take 4 q) s) (idle k s) ≡ walking_after q
    unfolding walking_after eat_all
    walk-on l = go (eqb (suc (length p)) (header_length q)) refl
      where
        go : (c : Bool) → eqb (suc (length p)) (header_length q) ≡ c
            → cond c (body k (take 4 q) s) (idle k s) ≡ cond (ltb (length q) (header_length q)) (idle k s) (eats (body k (take 4 q) s) (drop (header_length q) q))
        go true e =
            let z : suc (length p) ≡ header_length q = eqb-true _ _ e in
            rw (le-ltb (length q) (header_length q) (omega (arith, longer)), drop_of_length-le q {i = header_length q} (omega (arith, longer)))
        go false e = rw (lt-ltb (length q) (header_length q) (reaches l (λ z. eqb-false _ _ e (sym z))))

    on-head : length p < header_length p → feed (feed_after p) x ≡ feed_after q
    unfolding feed feed_after in_header walking_after
    on-head l =
        let low : length p ≤ 4096 = omega (arith, header-most p) in
        let low' : suc (length p) ≤ 4096 = omega (arith, header-most p) in
        rw (counted-low (length p) low, four-header p, lt-ltb (length p) (header_length p) l, head-on, longer, counted-low (suc (length p)) low', four-header q)
        (ap (λ (w : Walking Draft). record { kind = k; head = take 4 q; count = suc (length p); walking = w })
        (walk-on l ∙ rw longer))

    pub walk_more : header_length p ≤ length p → eat book k Draft one_draft (shut_draft k) draft_rows deepest (walking_after p) x ≡ walking_after q
    unfolding walking_after eat_all
    walk_more l =
        let h : header_length q ≡ header_length p = header-same p (x ∷ []) (omega (arith, header-least p)) in
        let f : take 4 q ≡ take 4 p = take-append-le 4 p (x ∷ []) (omega (arith, header-least p)) in
        let d : drop (header_length p) q ≡ drop (header_length p) p ++ (x ∷ []) = drop-append-le (header_length p) p (x ∷ []) l in
        rw (h, f, d, le-ltb (length p) (header_length p) l, le-ltb (length q) (header_length p) (omega (arith, longer)))
        (sym (cut_anywhere book k Draft one_draft (shut_draft k) draft_rows deepest (body k (take 4 p) s) (drop (header_length p) p) (x ∷ [])))

    on-body : header_length p ≤ length p → feed (feed_after p) x ≡ feed_after q
    unfolding feed feed_after
    on-body l =
        let f : take 4 q ≡ take 4 p = take-append-le 4 p (x ∷ []) (omega (arith, header-least p)) in
        let c : header_length p ≤ counted (length p) = counted-least (length p) (header_length p) l (omega (arith, header-most p)) in
        rw (four-header p, le-ltb (counted (length p)) (header_length p) c, count-on (length p), walk_more l, longer, f)

    pub feed-on : feed (feed_after p) x ≡ feed_after q
    feed-on = go (ltb (length p) (header_length p)) refl
      where
        go : (c : Bool) → ltb (length p) (header_length p) ≡ c → feed (feed_after p) x ≡ feed_after q
        go true e = on-head (ltb-true _ _ e)
        go false e = on-body (ltb-false _ _ e)

  -- after more octets
  pub fed-more : (p ys : List ℕ) → feed_all (feed_after p) ys ≡ feed_after (p ++ ys)
  unfolding feed_all
  fed-more p [] = rw (append-nil p)
  fed-more p (x ∷ ys) = rw (feed-on p x) (fed-more (p ++ (x ∷ [])) ys ∙ rw (append_assoc p (x ∷ []) ys))

  -- after more parts
  pub parts_more : (p : List ℕ) (ps : List (List ℕ)) → feed_parts (feed_after p) ps ≡ feed_after (p ++ joined_parts ps)
  unfolding feed_parts joined_parts
  parts_more p [] = rw (append-nil p)
  parts_more p (y ∷ ps) = rw (fed-more p y) (parts_more (p ++ y) ps ∙ rw (append_assoc p y (joined_parts ps)))
