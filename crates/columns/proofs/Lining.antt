-- The line of a row, and line after line. Assumes nothing.
use mathlib.Core.Path.{◌≡◌, refl, ap, ◌∙◌}
use mathlib.Core.Bool.{Bool, true, false, cond}
use mathlib.Core.List.{List}
use Prim.Native.Nat.{ℕ}
use lib.ListN.{length, take, drop, get_or}
use denote.Ref.{Bor}
use Rattle.rules.specs.Values.{table_rows, desk_span, Stands}
use Rattle.rules.specs.declared.Span.{Span}
use Rattle.rules.specs.declared.Verdict.{Verdict}
use Rattle.lookup.specs.Lent.{HasRow, HasRows, desk_by}
use Rattle.lookup.proofs.Tables.{rows_in}
use Rattle.lookup.proofs.Spans.{own-desk}
use Rattle.wording.specs.declared.Sheet.{Sheet}
use Rattle.wording.specs.Sheets.{Writes}
use Rattle.wording.proofs.Sheets.{then-writes}
use Rattle.phrases.specs.Words.{newline}
use Rattle.phrases.specs.Table.{rows, marks}
use Rattle.phrases.specs.Sentences.{said}
use Rattle.columns.specs.Values.{ending}
use Rattle.columns.specs.Rows.{row_run, value_of, marked, row_line, Counted}
use Rattle.columns.specs.declared.View.{View}

-- what is counted lies in the table
pub has-rows : {k : ℕ} {m t : List ℕ} {count row : ℕ} → Counted k m t count row → HasRows t count
has-rows {k} {m} {t} n = rw n.all (rows_in k m t)

pub has-row : {k : ℕ} {m t : List ℕ} {count row : ℕ} → Counted k m t count row → HasRow t row
has-row {row = row} n = has-rows n row n.among

seen-is : (right : Bool) (m c : Bor (List ℕ)) → (cond right m c).now ≡ cond right m.now c.now
seen-is true m c = refl
seen-is false m c = refl

module _ (names table : List ℕ) (w : View) (v : Verdict) (count row : ℕ) (m c part : Bor (List ℕ)) (n : count ≡ table_rows w.kind m.now table)
    (d : Stands (cond w.right m c) (desk_by count row (length m.now) (length c.now) table) part) where
  -- with the count of the table's own rows it is the desk's lookup
  span-is : desk_by count row (length m.now) (length c.now) table ≡ desk_span w.kind row m.now (length c.now) table
  span-is = rw n (own-desk w.kind m.now table row (length c.now))

  part-is : part.now ≡ value_of w.kind table m.now (length c.now) (cond w.right m.now c.now) row
  part-is =
      d.octets
      ∙ ap (λ (s : Span). take s.len (drop s.start (cond w.right m c).now)) span-is
      ∙ ap (λ l. take (desk_span w.kind row m.now (length c.now) table).len (drop (desk_span w.kind row m.now (length c.now) table).start l)) (seen-is w.right m c)

  pub line_put : {run : List ℕ} {mark : ℕ} {s₀ s₁ s₂ s₃ s₄ : Sheet} → run ≡ row_run table row → mark ≡ marked v (get_or run 4 0)
      → Writes (said names run rows (get_or run 1 0)) s₀ s₁ → Writes (ending names run w (get_or run 2 0) (get_or run 6 0) part.now) s₁ s₂
      → Writes (said names run marks mark) s₂ s₃ → Writes newline s₃ s₄
      → Writes (row_line names w v table m.now c.now row) s₀ s₄
  unfolding row_line
  line_put e k p f q z = rw (← part-is) (then-writes (rw e at p) (then-writes (rw e at f) (then-writes (rw (k, e) at q) z)))
