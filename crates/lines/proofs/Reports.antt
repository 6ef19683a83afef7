-- The text on a message is the refusal's line, or the counts and the rows' lines; and an input is a kind and a message. Assumes nothing.
--     reported_refused, reported_accepted   by the call's verdict, table and all
--     written                               what is put from the start is what Written says
--     message-counted, listed_rows          the parts of an input and of a table that count
use mathlib.Core.Path.{◌≡◌, ap, ◌∙◌}
use mathlib.Core.Bool.{false}
use mathlib.Core.List.{List, ◌++◌}
use Prim.Native.Nat.{ℕ, ◌-◌, min}
use native.Mathlib.Omega.{arith}
use lib.ListN.{length, take, drop, get_or, length-append, length-drop}
use lib.Seq.{take_all}
use Rattle.std.proofs.lemmas.List.{take_min}
use Rattle.std.proofs.Math.Nat.{min_comm}
use Rattle.rules.specs.Framing.{message_type}
use Rattle.rules.specs.Listings.{book}
use Rattle.rules.specs.Table.{rows_of, kept_rows, header, table_of, laid}
use Rattle.rules.specs.Verdicts.{refuses, items, call_verdict, call_table}
use Rattle.rules.specs.Octets.{five}
use Rattle.rules.specs.Program.{blanked, row_lines, refuse_word, text_of, input_kind, input_message, Written}
use Rattle.rules.specs.Answers.{Called}
use Rattle.rules.specs.declared.Verdict.{Verdict}
use Rattle.rules.proofs.Rows.{rows-length}
use Rattle.answers.proofs.Refusing.{refusing}
use Rattle.wording.specs.declared.Sheet.{Sheet}
use Rattle.wording.specs.Puts.{Puts}
use Rattle.wording.specs.Sheets.{Writes}
use Rattle.wording.proofs.Puts.{puts-start, puts-same}
use Rattle.lines.specs.Lines.{lines_from, Lists, list_text}
use Rattle.lines.proofs.Lines.{lines_are}

-- ---- by the one call, with a table and a copy that are large enough for any message

module _ (k : ℕ) (m : List ℕ) {table₀ copy₀ : List ℕ} {v : Verdict} {table copy : List ℕ} (x : Called k m table₀ copy₀ v table copy)
    (t : 6138 ≡ length table₀) (c : 4096 ≡ length copy₀) where
  verdict_is : v ≡ call_verdict book k m 4096 6138
  verdict_is = rw (t, c) x.answers

  pub reported_refused : {s t : Sheet} → (v.code ≡ 0 → ⊥) → Writes (refuse_word ++ blanked (five v)) s t → Writes (text_of book k m) s t
  unfolding text_of
  reported_refused n p = rw (← verdict_is, refusing v n) p

  module _ (ok : v.code ≡ 0) where
    accepts : refuses (call_verdict book k m 4096 6138) ≡ false
    accepts = rw (← verdict_is, ok)

    -- the numbers of the rows stand at the table's start
    table_is : table ≡ laid (table_of (message_type m) k (items book k m)) table₀
    unfolding call_table
    table_is = x.table_left ∙ rw (← t, ← c, accepts)

    count_is : get_or table 0 0 ≡ length (items book k m)
    unfolding laid table_of header
    count_is = ap (λ (q : List ℕ). get_or q 0 0) table_is

    kept_is : get_or table 1 0 ≡ kept_rows (items book k m)
    unfolding laid table_of header
    kept_is = ap (λ (q : List ℕ). get_or q 1 0) table_is

    abbrev rest : List ℕ
    rest = drop (length (table_of (message_type m) k (items book k m))) table₀

    rows_are : drop 6 table ≡ rows_of (items book k m) ++ rest
    unfolding laid table_of header
    rows_are = ap (drop 6) table_is

    pub lists : Lists table
    unfolding laid table_of header
    lists =
        let n = rows-length (items book k m) in
        record {
          headed = rw table_is (omega arith);
          there = rw (count_is, table_is) (omega (arith, n, length-append (rows_of (items book k m)) rest));
        }

    pub reported_accepted : {s t : Sheet} → Writes (list_text table) s t → Writes (text_of book k m) s t
    unfolding text_of list_text
    reported_accepted p =
        let l : lines_from (drop 6 table) 0 (get_or table 0 0) ≡ row_lines (items book k m) = ap (lines_from (drop 6 table) 0) count_is ∙ lines_are (items book k m) (drop 6 table) rest rows_are in
        rw (accepts, ← count_is, ← kept_is, ← l) p

-- ---- the input

pub written : (input out : List ℕ) {r : ℕ} {out' : List ℕ} → Puts (text_of book (input_kind input) (input_message input)) 0 out r out' → Written input out r out'
written input out p =
    let s = puts-same p (puts-start (text_of book (input_kind input) (input_message input)) out) in record { answers = s.0; out_left = s.1 }

pub message-counted : (input : List ℕ) {n : ℕ} → n ≡ min (length (take (length input - 1) (drop 1 input))) 4097 → take n (take (length input - 1) (drop 1 input)) ≡ input_message input
message-counted input e =
    let all : take (length input - 1) (drop 1 input) ≡ drop 1 input = take_all (length input - 1) (drop 1 input) (omega (arith, length-drop 1 input)) in
    ap (λ i. take i (take (length input - 1) (drop 1 input))) (e ∙ min_comm _ _) ∙ take_min 4097 (take (length input - 1) (drop 1 input)) ∙ ap (take 4097) all

-- the rows of a table after its header
pub listed_rows : (table : List ℕ) → take (length table - 6) (drop 6 table) ≡ drop 6 table
listed_rows table = take_all (length table - 6) (drop 6 table) (omega (arith, length-drop 6 table))
