-- Function: `unnumber` (src/unnumber.rt).
-- Why it holds: Each fault is answered in its turn, with the output as it was. Closes with each
-- row's tag put at its start are the marks of a table.
-- What would break it: A refusal that writes, a count that isn't the marks', or too short an output
-- taken, would be caught at its return.
use mathlib.Core.Path.{◌≡◌, refl, sym, ap, ◌∙◌}
use mathlib.Core.Bool.{Bool, true, false}
use mathlib.Core.List.{List}
use Prim.Native.Nat.{ℕ, ◌/◌, ◌≤◌, ◌<◌}
use native.Mathlib.Omega.{arith}
use lib.ListN.{length, replicate, length-replicate}
use borrow.Author.Tests.{ne_eqb}
use Rattle.std.proofs.lemmas.Result.{err_from_is_err_and}
use Rattle.answers.specs.Answer.{TAKEN, ROOM, TABLE}
use Rattle.answers.specs.Refusal.{number_of}
use Rattle.answers.specs.declared.refusal.Refusal.{Refusal}
use Rattle.answers.proofs.RefusalLaws.{never_taken}
use Rattle.laws.specs.Choose.{All}
use Rattle.answers.specs.Output.{written, answer_of, if_taken, output_of}
use Rattle.laws.proofs.Choices.{all_map}
use Rattle.marks.specs.declared.row.Row.{Row}
use Rattle.marks.specs.declared.unnumber.Unnumbered.{Unnumbered}
use Rattle.marks.specs.Back.{tagged, marks_of, document_of, numberedb, check_table}
use Rattle.marks.specs.Mark.{CLOSE}
use Rattle.marks.specs.Outcome.{unnumbered, table_marks, unnumber_outcome, unnumber_output}
use Rattle.marks.specs.Table.{ROW_WORDS, rows, row_in, row_fault}
use Rattle.answers.proofs.OutputLaws.{answer_fault, answer_room, answer_taken}
use Rattle.marks.proofs.ReadBack.{table_tells}
use Rattle.marks.proofs.RowLaws.{length_rows}
use Rattle.marks.proofs.Tagging.{Within, length_tagged, table_within, puts_marks}
use Rattle.marks.proofs.unnumber.unnumber.Goals as goal

some_row : (table : List ℕ) (b : Bool) → b ≡ numberedb (rows table) → b ≡ true → 0 < length table / ROW_WORDS
some_row table b e h = omega (arith, (table_tells (rows table) (sym e ∙ h)).0, length_rows table)

starts_in : (table : List ℕ) (b : Bool) → b ≡ numberedb (rows table) → b ≡ true → (root : Row) → root ≡ row_in (rows table) 0 → (count : ℕ)
    → root.node.end ≤ count → All (Within count) (rows table)
starts_in table b e h root first count l =
    let m : (row_in (rows table) 0).node.end ≤ count = rw (← first) l in
    all_map (λ r w. (w.0, omega (arith, w.1))) (rows table) (table_within (rows table) (sym e ∙ h))

-- The marks are as many as the first row's end says.
count_marks : (table : List ℕ) → length (table_marks table) ≡ (row_in (rows table) 0).node.end
unfolding table_marks marks_of
count_marks table = length_tagged (rows table) _ ∙ length-replicate (row_in (rows table) 0).node.end CLOSE

module _ (table out : List ℕ) where
  abbrev Answers : Unnumbered → List ℕ → Type 0
  Answers r after = record { answer : r ≡ unnumber_outcome table out; output : after ≡ unnumber_output table out }

  -- What a refused call answers and leaves, and what a taken one does.
  refuses : (k : ℕ) → answer_of (check_table table) (table_marks table) out ≡ k → (k ≡ TAKEN → ⊥) → Answers (unnumbered k 0 0) out
  unfolding unnumber_outcome unnumber_output output_of if_taken
  refuses k a n = rw (a, ne_eqb k TAKEN n) (record { answer = refl; output = refl })

  takes : answer_of (check_table table) (table_marks table) out ≡ TAKEN
      → Answers (unnumbered TAKEN (document_of (rows table)) (length (table_marks table))) (written (table_marks table) out)
  unfolding unnumber_outcome unnumber_output output_of if_taken
  takes a = rw a (record { answer = refl; output = refl })

  words_faulty : (r : Refusal) → number_of r ≡ row_fault table → Answers (unnumbered (number_of r) 0 0) out
  unfolding check_table
  words_faulty r q =
      let n = never_taken r in
      let e : check_table table ≡ number_of r = rw (← q, ne_eqb (number_of r) TAKEN n) in
      refuses (number_of r) (rw e (answer_fault (number_of r) (table_marks table) out n)) n

  module _ (whole : TAKEN ≡ row_fault table) (b : Bool) (e : b ≡ numberedb (rows table)) where
    no_table : b ≡ false → Answers (unnumbered TABLE 0 0) out
    unfolding check_table
    no_table h = refuses TABLE (rw (← whole, ← e, h) (answer_fault TABLE (table_marks table) out (λ z. omega arith))) (λ z. omega arith)

    module _ (h : b ≡ true) (root : Row) (first : root ≡ row_in (rows table) 0) where
      accepted : check_table table ≡ TAKEN
      unfolding check_table
      accepted = rw (← whole, ← e, h) refl

      last : root.node.end ≡ length (table_marks table)
      last = ap (λ r. r.node.end) first ∙ sym (count_marks table)

      no_room : length out < root.node.end → Answers (unnumbered ROOM 0 0) out
      no_room l = refuses ROOM (answer_room (check_table table) (table_marks table) out accepted (omega (arith, last))) (λ z. omega arith)

      roomy : root.node.end ≤ length out → answer_of (check_table table) (table_marks table) out ≡ TAKEN
      roomy l = answer_taken (check_table table) (table_marks table) out accepted (omega (arith, last))

      marks_put : (closed after : List ℕ) → closed ≡ written (replicate root.node.end CLOSE) out → after ≡ tagged (rows table) closed
          → after ≡ written (table_marks table) out
      unfolding table_marks
      marks_put closed after ec ea =
          ea
          ∙ ap (tagged (rows table)) ec
          ∙ ap (λ r. tagged (rows table) (written (replicate r.node.end CLOSE) out)) first
          ∙ puts_marks (rows table) (sym e ∙ h) out

      taken : root.node.end ≤ length out → (closed after : List ℕ) → closed ≡ written (replicate root.node.end CLOSE) out
          → after ≡ tagged (rows table) closed
          → Answers (unnumbered TAKEN root.node.document root.node.end) after
      unfolding document_of
      taken l closed after ec ea =
          let t = takes (roomy l) in
          record {
            answer = (λ i. unnumbered TAKEN (first i).node.document (last i)) ∙ t.answer;
            output = marks_put closed after ec ea ∙ t.output;
          }

pub returns-in_err-check_rows : goal.returns-in_err-check_rows
returns-in_err-check_rows c =
    let p = err_from_is_err_and c.from_residual.result c.from_residual.ensures.1 in
    rw (p.1, p.2) (words_faulty _ _ _ c.in_err-check_rows.ensures)

pub returns-then-not-is_numbered : goal.returns-then-not-is_numbered
returns-then-not-is_numbered c = no_table _ _ c.in_ok-check_rows.ensures _ c.is_numbered.ensures c.if-not-is_numbered.true

pub row_at-root-requires : goal.row_at-root-requires
row_at-root-requires c =
    let t = c.args.table in
    some_row t.now _ c.is_numbered.ensures c.if-not-is_numbered.false

pub returns-then-out-count : goal.returns-then-out-count
returns-then-out-count c =
    no_room _ _ c.in_ok-check_rows.ensures _ c.is_numbered.ensures c.if-not-is_numbered.false _ c.row_at-root.ensures (omega arith)

pub put_tags-requires : goal.put_tags-requires
put_tags-requires c =
    starts_in _ _ c.is_numbered.ensures (c.if-not-is_numbered.false) _ c.row_at-root.ensures _ (omega arith)

pub returns : goal.returns
returns c =
    taken _ _ c.in_ok-check_rows.ensures _ c.is_numbered.ensures (c.if-not-is_numbered.false)
    _ c.row_at-root.ensures (omega arith) _ _ c.put_closes.ensures c.put_tags.ensures
