-- The three ways in which a reading ends, each with what it answers and leaves. Assumes nothing.
--     ends-refused   by 1 to 8          ends-cut   by 9          ends-whole   every element is taken
use mathlib.Core.Path.{◌≡◌, refl, sym, ap, ◌∙◌}
use mathlib.Core.Bool.{true, false}
use mathlib.Core.List.{List, [], ◌∷◌}
use Prim.Native.Nat.{ℕ, ◌+◌, ◌/◌, ◌≤◌}
use native.Mathlib.Omega.{arith}
use lib.ListN.{length, drop, length-drop}
use lib.Seq.{take-nil}
use Rattle.rules.specs.Sizes.{row_numbers}
use Rattle.rules.specs.Framing.{header_length}
use Rattle.rules.specs.Listings.{book}
use Rattle.rules.specs.Standing.{Item, fresh}
use Rattle.rules.specs.Taking.{Out, cut, whole, items_of, taken, body_level}
use Rattle.rules.specs.Table.{rows_of, laid, fitting}
use Rattle.rules.specs.Verdicts.{accepted, refused_at, refuses, first, cut_check, short_verdict, lack_verdict, header_checks, framing_checks}
use Rattle.answers.specs.Refusals.{verdict_of}
use Rattle.answers.specs.declared.Refusal.{Refusal}
use Rattle.answers.proofs.Refusing.{named_refuses}
use Rattle.rules.specs.Answers.{refused_reading, reading_of, read_items, read_rows, Read}
use Rattle.rules.proofs.Checks.{first_append}
use Rattle.rules.proofs.Header.{Passed, passed}
use Rattle.rules.proofs.Rows.{Octets, octets-drop, all_fit, body-met, header-least}
use Rattle.rules.proofs.Book.{book-sound}
use Rattle.reading.specs.Gaps.{packed, unpacked}
use Rattle.taking.specs.Held.{Held, held, tallied, no_counts}
use Rattle.reading.specs.Scan.{whole_reading, reading_by, scan, walk_of, held_of, Ran}
use Rattle.taking.specs.declared.Counts.{Counts}
use Rattle.std.specs.Prelude.{⊤, Result, Ok, Err}
use Rattle.answers.specs.declared.Refusal.TheVariants.{Cut}
use Rattle.taking.specs.declared.Tally.{Tally}
use Rattle.reading.proofs.Alongside.{first_one, Same, scan-cut, scan-whole}
use Rattle.reading.proofs.Named.{unpack, short-named, lack_named}

-- nothing is laid over what is lent
none-laid : (rows : List ℕ) → laid (rows_of (fitting (length rows) [])) rows ≡ rows
unfolding laid rows_of
none-laid rows = rw (take-nil (length rows / row_numbers))

module _ (k : ℕ) (m rows : List ℕ) where
  framing-refused : refuses (first (header_checks book k m)) ≡ true → first (framing_checks book k m) ≡ first (header_checks book k m)
  unfolding framing_checks
  framing-refused e = first_append (header_checks book k m) (cut_check (taken book k m) ∷ []) ∙ rw e

  pub ends_refused : (r : Refusal) → verdict_of r ≡ first (header_checks book k m) → Read k m rows (refused_reading (verdict_of r)) rows
  unfolding reading_of read_rows read_items
  ends_refused r e =
      let z : refuses (first (header_checks book k m)) ≡ true = rw (← e) (named_refuses r) in record {
        answers = rw (framing-refused z, z, e);
        rows_left = rw z (sym (none-laid rows));
      }

  module _ (ok : refuses (first (header_checks book k m)) ≡ false) where
    framing-passed : first (framing_checks book k m) ≡ first (cut_check (taken book k m) ∷ [])
    unfolding framing_checks
    framing-passed = first_append (header_checks book k m) (cut_check (taken book k m) ∷ []) ∙ rw ok

    pass : Passed book k m
    pass = passed book k m ok

    taken_is : taken book k m ≡ items_of book k (body_level book m) (header_length m) (drop (header_length m) m)
    unfolding taken
    taken_is = refl

    -- the walk of the code over the body
    abbrev Walked : Out Held → Type 0
    Walked o = scan k (body_level book m) fresh 0 0 (header_length m) (drop (header_length m) m) (held no_counts rows) ≡ o

    pub ends-cut : (q : ℕ) (s : Held) → Walked (cut q s) → Read k m rows (refused_reading (refused_at 9 67 q 0 0)) s.rows
    unfolding reading_of read_rows read_items
    ends-cut q s w =
        let x = scan-cut k (body_level book m) (header_length m) (drop (header_length m) m) rows no_counts refl q s w in
        let t : taken book k m ≡ cut q x.0 = taken_is ∙ x.1 in
        let f : first (framing_checks book k m) ≡ refused_at 9 67 q 0 0 = framing-passed ∙ first_one (cut_check (taken book k m)) ∙ rw t in record {
          answers = rw f;
          rows_left = x.2.rows_left ∙ rw (ok, t);
        }

    -- over the elements taken
    whole-answer : (s : Held) (es : List Item) → taken book k m ≡ whole es → Same rows es s → s.counts.gap ≡ packed (lack_verdict book k (body_level book m) es) → Octets m
        → Read k m rows (whole_reading s.counts) s.rows
    unfolding reading_of read_rows read_items whole_reading
    whole-answer s es t x g oct =
        let f : first (framing_checks book k m) ≡ accepted = framing-passed ∙ first_one (cut_check (taken book k m)) ∙ rw t in
        let fits = all_fit (body-met book k m es t) (octets-drop (header_length m) m oct) (omega arith) in
        let top : header_length m + length (drop (header_length m) m) ≤ 4096 = omega (arith, length-drop (header_length m) m, pass.has_header, pass.most) in
        let short : unpacked 11 67 (packed (short_verdict es)) ≡ short_verdict es = unpack 11 67 (omega arith) (short_verdict es) (short-named _ _ es top fits) in
        let lack : unpacked 12 70 (packed (lack_verdict book k (body_level book m) es)) ≡ lack_verdict book k (body_level book m) es
        = unpack 12 70 (omega arith) (lack_verdict book k (body_level book m) es) (lack_named book book-sound k (body_level book m) _ _ es top fits) in record {
          answers = rw (f, t, x.rows, x.kept, x.short, g, short, lack);
          rows_left = x.rows_left ∙ rw (ok, t);
        }

    pub ends-whole : (s : Held) → Walked (whole s) → Octets m → Read k m rows (whole_reading s.counts) s.rows
    ends-whole s w oct =
        let x = scan-whole k (body_level book m) (header_length m) (drop (header_length m) m) rows no_counts refl s w (omega (arith, header-least m)) in
        whole-answer s x.0 (taken_is ∙ x.1) x.2 x.3 oct

    -- as the code has it: where the body begins, its octets and its level, and no counts to begin with
    module _ {v at : ℕ} {c : Counts} {part : List ℕ} (hv : v ≡ body_level book m) (ha : at ≡ header_length m) (hp : part ≡ drop at m) (hc : c ≡ no_counts) where
      walked : (o : Out Held) → scan k v fresh 0 0 at part (held c rows) ≡ o → Walked o
      walked o w = rw (← hv, ← ha, ← hp, ← hc) w

      module _ {t t' : Tally} {n : ℕ} {left : List ℕ} (o : Out Held) (w : scan k v fresh 0 0 at part (held c rows) ≡ o) (hl : left ≡ t'.rows.now) where
        pub reads_cut : {f : Refusal} {r : Result Counts Refusal} → r ≡ Err f → Ran (Err f) t t' n o → Read k m rows (reading_by r) left
        reads_cut {f} {r} hr x = go o w x.answer x.holds
          where
            go : (o : Out Held) → scan k v fresh 0 0 at part (held c rows) ≡ o → ◌≡◌ {A = Result ⊤ Refusal} (Err f) (walk_of o) → tallied t' ≡ held_of o → Read k m rows (reading_by r) left
            go (cut q s) w e l = let f' : f ≡ Cut q = cc in rw (hr, f', hl, ap (λ (h : Held). h.rows) l) (ends-cut q s (walked (cut q s) w))
            go (whole s) w e l = let z : ◌≡◌ {A = ℕ} 0 1 = cc in absurd (omega arith)

        pub reads_whole : Ran (Ok tt) t t' n o → Octets m → Read k m rows (whole_reading t'.counts) left
        reads_whole x oct = go o w x.answer x.holds
          where
            go : (o : Out Held) → scan k v fresh 0 0 at part (held c rows) ≡ o → ◌≡◌ {A = Result ⊤ Refusal} (Ok tt) (walk_of o) → tallied t' ≡ held_of o → Read k m rows (whole_reading t'.counts) left
            go (cut q s) w e l = let z : ◌≡◌ {A = ℕ} 0 1 = cc in absurd (omega arith)
            go (whole s) w e l = rw (ap (λ (h : Held). h.counts) l, hl, ap (λ (h : Held). h.rows) l) (ends-whole s (walked (whole s) w) oct)
