-- The judge accepts, and leaves a table, exactly where the message has such a table. Soundness gives one way and completeness the other; the rest is
-- reading checks 1 to 8 and 10 to 12 as conditions. Assumes nothing.
--     table_iff     where 1 to 8 pass: t is as IsTable says exactly where the message is whole and the table of its elements stands at the start of t
--     accepts_iff   the judge accepts and leaves `left` exactly where a table that is accepted stands in it, and the rest is as it was lent
use mathlib.Core.Path.{◌≡◌, refl, sym, ap, ◌∙◌}
use mathlib.Core.Logic.{◌↔◌}
use mathlib.Core.Bool.{Bool, true, false, not, ◌||◌, beq}
use mathlib.Core.List.{List, [], ◌∷◌, ◌++◌}
use Prim.Native.Nat.{ℕ, ◌+◌, ◌≤◌, ◌<◌}
use native.Mathlib.Omega.{arith}
use native.Mathlib.Decide.{dec_lt}
use borrow.Author.Tests.{eq-eqb, ne_eqb, le-ltb}
use lib.Dec.{eqb, ltb}
use lib.ListN.{length, get_or}
use lib.Seq.{ext_get_or}
use Rattle.rules.specs.Sizes.{largest_message, used}
use Rattle.rules.specs.Framing.{version, flag_p, flag_t, message_type, length_field, header_length}
use Rattle.rules.specs.Types.{among}
use Rattle.rules.specs.Listings.{Book, is_message, message_of}
use Rattle.rules.specs.Standing.{Item}
use Rattle.rules.specs.Taking.{whole, taken, body_level, items_in}
use Rattle.rules.specs.Table.{table_of, laid}
use Rattle.rules.specs.Verdicts.{accepted, refused, check, refuses, first, cut_check, short_verdict, lack_verdict, header_checks, framing_checks, items, room_check, table_checks, judge_checks, judge_verdict, judge_table}
use Rattle.rules.specs.Sound.{sound}
use Rattle.rules.specs.declared.Verdict.{Verdict}
use Rattle.rules.proofs.Checks.{AllPass, all_pass, first-pass, check-off}
use Rattle.rules.proofs.Header.{Passed, framed}
use Rattle.tables.specs.IsTable.{IsOf, IsTable}
use Rattle.verdicts.specs.Missing.{ShortRow, Lacks}
use Rattle.verdicts.specs.Accepts.{Accepts, Leaves}
use Rattle.tables.proofs.Tests.{clash, not-true}
use Rattle.verdicts.proofs.Laying.{laid-length, laid_in, laid-past, judge_framed, table-passes, enough-room, accepted-table}
use Rattle.tables.proofs.Rowed.{begins-of, laid_of, table-length, Begins, laid-begins, count_of}
use Rattle.tables.proofs.Messages.{WalkedOf, walked-of}
use Rattle.verdicts.proofs.Missing.{short_iff, missing_iff}
use Rattle.tables.proofs.Soundness.{is-table}
use Rattle.verdicts.proofs.Completeness.{complete}

pub pass_append : (us vs : List Verdict) → AllPass us → AllPass vs → AllPass (us ++ vs)
unfolding AllPass
pass_append [] vs a c = c
pass_append (u ∷ us) vs a c = (a.0, pass_append us vs a.1 c)

off : (a : Bool) (v : Verdict) → refuses v ≡ true → a ≡ false → refuses (check a v) ≡ false
off a v r e = check-off a v r ∙ e

same-beq : (a c : Bool) → a ≡ c → not (beq a c) ≡ false
same-beq true true e = refl
same-beq true false e = let z : ◌≡◌ {A = ℕ} 0 1 = cc in absurd (omega arith)
same-beq false true e = let z : ◌≡◌ {A = ℕ} 0 1 = cc in absurd (omega arith)
same-beq false false e = refl

module _ (b : Book) (k : ℕ) (m : List ℕ) where
  -- checks 1 to 8, the other way round
  pub pass-header : Passed b k m → AllPass (header_checks b k m)
  unfolding header_checks AllPass
  pass-header p = (
    off (not (among k b.kinds)) (refused 1 0) refl (rw p.kind),
    (
      off (eqb (length m) 0 || ltb largest_message (length m)) (refused 2 0) refl (rw (ne_eqb (length m) 0 (λ z. omega (arith, z, p.some)), le-ltb largest_message (length m) p.most)),
      (
        off (not (eqb (version m) 2)) (refused 3 0) refl (rw (eq-eqb (version m) 2 p.version_2)),
        (
          off (ltb (length m) (header_length m)) (refused 4 0) refl (le-ltb (length m) (header_length m) p.has_header),
          (
            off (flag_p m) (refused 5 0) refl p.no_p,
            (
              off (not (eqb (length_field m + 4) (length m))) (refused 6 67) refl (rw (eq-eqb (length_field m + 4) (length m) p.length_right)),
              (
                off (not (is_message b (message_type m))) (refused 7 0) refl (rw p.listed),
                (
                  off (not (among k (message_of b (message_type m)).kinds)) (refused 21 0) refl (rw p.on_kind),
                  (
                    off (not (beq (flag_t m) (message_of b (message_type m)).teid)) (refused 8 0) refl (same-beq (flag_t m) (message_of b (message_type m)).teid p.t_right),
                    tt,
                  ),
                ),
              ),
            ),
          ),
        ),
      ),
    ),
  )

-- ---- tables and elements

module _ (b : Book) (fine : sound b ≡ true) (k : ℕ) (m : List ℕ) where
  pub table_iff : Passed b k m → (t : List ℕ) → IsTable b k m t ↔ (IsOf k m t × ((es : List Item) × (taken b k m ≡ whole es) × Begins t es))
  table_iff p t = (
    λ x. (x.right.of, complete b fine k m t x),
    λ x. is-table b fine k m t x.1.0 x.1.2 x.1.1 p.has_header p.listed x.0,
  )

  -- where 1 to 8 pass and the message is whole, 9 does too
  pub passes : Passed b k m → (es : List Item) → taken b k m ≡ whole es → refuses (first (framing_checks b k m)) ≡ false
  unfolding framing_checks AllPass
  passes p es e =
      let cuts : refuses (cut_check (taken b k m)) ≡ false = rw e in
      (all_pass (framing_checks b k m)).1 (pass_append (header_checks b k m) (cut_check (taken b k m) ∷ []) (pass-header b k m p) (cuts, tt))

  -- ---- 10 to 12

  module _ (t : List ℕ) (es : List Item) (e : taken b k m ≡ whole es) (ok : Begins t es) (p : Passed b k m) where
    items_are : items b k m ≡ es
    items_are = ap items_in e

    abbrev walked : WalkedOf b k m es
    walked = walked-of b k m es e

    pub short-is : (refuses (short_verdict es) ≡ true) ↔ ((r : ℕ) × ShortRow b k (body_level b m) t r)
    short-is = short_iff b fine k m t es ok walked p.listed

    pub lack_is : (refuses (lack_verdict b k (body_level b m) es) ≡ true) ↔ ((q : ℕ) × (j : ℕ) × Lacks b k (body_level b m) t q j)
    lack_is = missing_iff b fine k m t es ok walked p.listed

    -- ---- the judge, given the elements

    pub accept : (room : ℕ) → used (length es) ≤ room → ((r : ℕ) → ShortRow b k (body_level b m) t r → ⊥) → ((q j : ℕ) → Lacks b k (body_level b m) t q j → ⊥) → judge_verdict b k m room ≡ accepted
    unfolding judge_checks framing_checks AllPass
    accept room l s d =
        let cuts : refuses (cut_check (taken b k m)) ≡ false = rw e in
        let fits : refuses (room_check b k m room) ≡ false = off (ltb room (used (length (items b k m)))) (refused 10 0) refl (rw items_are (le-ltb room (used (length es)) l)) in
        let s' : refuses (short_verdict (items b k m)) ≡ false = rw items_are (not-true (refuses (short_verdict es)) (λ z. let x = short-is.0 z in s x.0 x.1)) in
        let d' : refuses (lack_verdict b k (body_level b m) (items b k m)) ≡ false
        = rw items_are (not-true (refuses (lack_verdict b k (body_level b m) es)) (λ z. let x = lack_is.0 z in d x.0 x.1 x.2)) in
        first-pass (judge_checks b k m room)
        (pass_append (framing_checks b k m) (table_checks b k m room) (pass_append (header_checks b k m) (cut_check (taken b k m) ∷ []) (pass-header b k m p) (cuts, tt)) (fits, (s', (d', tt))))

    pub accepts : IsOf k m t → (room : ℕ) → judge_verdict b k m room ≡ accepted → Accepts b k m t
    unfolding AllPass
    accepts of room a =
        let z = table-passes b k m room (rw a) in record {
          header = p;
          table = is-table b fine k m t es ok e p.has_header p.listed of;
          none_short = λ r x. clash (refuses (short_verdict es)) (short-is.1 (r, x)) (rw items_are at z.1.0);
          none_missing = λ q j x. clash (refuses (lack_verdict b k (body_level b m) es)) (lack_is.1 (q, j, x)) (rw items_are at z.1.1.0);
        }

  -- ---- the judge

  module _ (lent left : List ℕ) where
    -- the judge accepts and leaves `left` in place of what was lent
    abbrev pub Left : Type 0
    Left = (judge_verdict b k m (length lent) ≡ accepted) × (judge_table b k m lent ≡ left)

    leaves : Left → Leaves b k m lent left
    leaves a =
        let ok : refuses (judge_verdict b k m (length lent)) ≡ false = rw a.0 in
        let f = framed b k m (judge_framed b k m (length lent) ok) in
        let es = f.1.0 in
        let i : items b k m ≡ f.1.0 = ap items_in f.1.1 in
        let is : left ≡ laid (table_of (message_type m) k f.1.0) lent = sym a.1 ∙ accepted-table b k m lent ok ∙ ap (λ (is : List Item). laid (table_of (message_type m) k is) lent) i in
        let room : length (table_of (message_type m) k f.1.0) ≤ length lent = rw (table-length (message_type m) k f.1.0) (rw i at (enough-room b k m (length lent) ok)) in
        let starts : Begins left f.1.0 = rw is (laid-begins (message_type m) k f.1.0 lent) in record {
          accepts = accepts left es f.1.1 starts f.0 (rw is (laid_of k m es lent)) (length lent) a.0;
          size = ap length is ∙ laid-length (table_of (message_type m) k es) lent room;
          stays = λ j l. ap (λ (xs : List ℕ). get_or xs j 0) is ∙ laid-past (table_of (message_type m) k es) lent j (omega (arith, l, count_of left es starts, table-length (message_type m) k es));
        }

    -- what is left is the elements' table laid over what was lent
    laid-over : (es : List Item) → Begins left es → Leaves b k m lent left → left ≡ laid (table_of (message_type m) k es) lent
    laid-over es s x =
        ext_get_or 0 left (laid (table_of (message_type m) k es) lent) (x.size ∙ sym (laid-length (table_of (message_type m) k es) lent (omega (arith, s.room, x.size, table-length (message_type m) k es))))
        (λ i l. go i (dec_lt i (length (table_of (message_type m) k es))))
      where
        go : (i : ℕ) → Dec (i < length (table_of (message_type m) k es)) → get_or left i 0 ≡ get_or (laid (table_of (message_type m) k es) lent) i 0
        go i (yes h) = begins-of k m left es x.accepts.table.right.of s i (omega (arith, h, table-length (message_type m) k es)) ∙ sym (laid_in (table_of (message_type m) k es) lent i h)
        go i (no h) = x.stays i (omega (arith, count_of left es s, table-length (message_type m) k es)) ∙ sym (laid-past (table_of (message_type m) k es) lent i (omega arith))

    lays : Leaves b k m lent left → Left
    lays x =
        let c = complete b fine k m left x.accepts.table in
        let es = c.0 in
        let v : judge_verdict b k m (length lent) ≡ accepted
        = accept left es c.1 c.2 x.accepts.header (length lent) (omega (arith, c.2.room, x.size)) x.accepts.none_short x.accepts.none_missing in
        let ok : refuses (judge_verdict b k m (length lent)) ≡ false = rw v in
        let i : items b k m ≡ c.0 = ap items_in c.1 in
        (v, accepted-table b k m lent ok ∙ ap (λ (is : List Item). laid (table_of (message_type m) k is) lent) i ∙ sym (laid-over es c.2 x))

    pub accepts_iff : Left ↔ Leaves b k m lent left
    accepts_iff = (leaves, lays)
