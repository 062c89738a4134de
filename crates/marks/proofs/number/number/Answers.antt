-- Function: `number` (src/number.rt).
-- Why it holds: The checks come in the order of `check_marks`. The room needed is that of the rows
-- counted on the way, and the rows are written last.
-- What would break it: A refusal out of its turn, room for marks in place of rows, or another count
-- would be caught at its return.
use mathlib.Core.Path.{◌≡◌, refl, sym, ap, ◌∙◌}
use mathlib.Core.List.{List}
use Prim.Native.Nat.{ℕ, ◌*◌, ◌/◌, ◌≤◌, ◌<◌}
use native.Mathlib.Omega.{arith}
use lib.ListN.{length}
use borrow.Author.Tests.{lt-ltb, le-ltb}
use Rattle.std.specs.Prelude.{Err}
use Rattle.std.proofs.lemmas.Result.{err_from_is_err_and}
use Rattle.answers.specs.Answer.{TAKEN, LONG, ROOM}
use Rattle.answers.specs.Refusal.{counted_in}
use Rattle.answers.specs.declared.refusal.Fault.{Fault}
use Rattle.nodes.specs.Words.{MOST_NODES}
use Rattle.answers.specs.Output.{written}
use Rattle.answers.specs.declared.verdict.Counted.{Counted}
use Rattle.marks.specs.Mark.{fault_from, check_marks}
use Rattle.marks.specs.Outcome.{outcome, number_outcome, number_output}
use Rattle.marks.specs.Table.{ROW_WORDS, table_of, table_words}
use Rattle.marks.specs.Private.Walk.{row_count}
use Rattle.answers.proofs.OutputLaws.{answer_fault, answer_room, answer_taken}
use Rattle.marks.proofs.MarkLaws.{check_make}
use Rattle.marks.proofs.Outcomes.{all_refused, all_written}
use Rattle.marks.proofs.Passing.{length_table, all_passed, one_refused}
use Rattle.marks.proofs.RowLaws.{length_words}
use Rattle.marks.proofs.number.number.Goals as goal

module _ (document : ℕ) (marks out : List ℕ) where
  abbrev Numbered : Counted → List ℕ → Type 0
  Numbered r after = record { answer : r ≡ number_outcome document marks out; output : after ≡ number_output document marks out }

  length_result : length (table_words document marks) ≡ ROW_WORDS * row_count marks
  unfolding table_words table_of
  length_result = length_words (table_of document marks) ∙ ap (λ n. 5 * n) (length_table document 1 0 marks)

  refused_with : (answer : ℕ) (r : Counted) → check_marks marks ≡ answer → (answer ≡ TAKEN → ⊥) → r ≡ outcome answer 0 → Numbered r out
  unfolding number_outcome number_output
  refused_with answer r e h f =
      let n : check_marks marks ≡ TAKEN → ⊥ = λ z. h (sym e ∙ z) in
      let a = answer_fault (check_marks marks) (table_words document marks) out n ∙ e in
      let t = all_refused (check_marks marks) (table_words document marks) out (length (table_of document marks)) answer a h in
      record { answer = f ∙ t.0; output = t.1 }

  long : (r : Counted) → MOST_NODES < length marks → r ≡ outcome LONG 0 → Numbered r out
  unfolding check_marks
  long r l f = refused_with LONG r (rw (lt-ltb MOST_NODES (length marks) l)) (λ z. omega arith) f

  faulty : (answer : ℕ) (r : Counted) → length marks ≤ MOST_NODES → (answer ≡ fault_from 1 0 marks) × (fault_from 1 0 marks ≡ TAKEN → ⊥)
      → r ≡ outcome answer 0 → Numbered r out
  unfolding check_marks
  faulty answer r l h f = refused_with answer r (rw (le-ltb MOST_NODES (length marks) l) (sym h.0)) (λ z. h.1 (sym h.0 ∙ z)) f

  module _ (taken : check_marks marks ≡ TAKEN) where
    no_room : (r : Counted) → length out / ROW_WORDS < row_count marks → r ≡ outcome ROOM 0 → Numbered r out
    unfolding number_outcome number_output
    no_room r l f =
        let a = answer_room (check_marks marks) (table_words document marks) out taken (omega (arith, length_result)) in
        let t = all_refused (check_marks marks) (table_words document marks) out (length (table_of document marks)) ROOM a (λ z. omega arith) in
        record { answer = f ∙ t.0; output = t.1 }

    whole : (rows : ℕ) (r : Counted) (after : List ℕ) → rows ≡ row_count marks → rows ≤ length out / ROW_WORDS → r ≡ outcome TAKEN rows
        → after ≡ written (table_words document marks) out → Numbered r after
    unfolding number_outcome number_output table_of
    whole rows r after e l w f =
        let a = answer_taken (check_marks marks) (table_words document marks) out taken (omega (arith, length_result)) in
        let t = all_written (check_marks marks) (table_words document marks) out (length (table_of document marks)) a in
        record { answer = w ∙ ap (λ n. outcome TAKEN n) (e ∙ sym (length_table document 1 0 marks)) ∙ t.0; output = f ∙ t.1 }

pub returns-then-marks-gt-MOST_NODES : goal.returns-then-marks-gt-MOST_NODES
returns-then-marks-gt-MOST_NODES c =
    let a = c.args in
    long a.document a.marks.now a.out.now _ (omega arith) (ap (λ (f : Fault). counted_in (Err f)) c.into.ensures)

pub returns-in_err-rows : goal.returns-in_err-rows
returns-in_err-rows c =
    let a = c.args in
    let p = err_from_is_err_and c.from_residual.result c.from_residual.ensures.1 in
    let o = one_refused a.marks.now _ c.in_err-rows.ensures in
    rw (p.1, p.2) (faulty a.document a.marks.now a.out.now _ _ (omega arith) o refl)

pub returns-then-row_count-rows : goal.returns-then-row_count-rows
returns-then-row_count-rows c =
    let a = c.args in
    let g = all_passed a.marks.now _ c.in_ok-rows.ensures in
    let taken = check_make a.marks.now (omega arith) g.0 in
    let few = g.1 in
    no_room a.document a.marks.now a.out.now taken _ (omega arith) (ap (λ (f : Fault). counted_in (Err f)) c.into-then-row_count-rows.ensures)

pub write_rows-requires : goal.write_rows-requires
write_rows-requires c =
    let a = c.args in
    let g = all_passed a.marks.now _ c.in_ok-rows.ensures in
    let taken = check_make a.marks.now (omega arith) g.0 in
    (taken, g.1, omega arith)

pub returns : goal.returns
returns c =
    let a = c.args in
    let g = all_passed a.marks.now _ c.in_ok-rows.ensures in
    let taken = check_make a.marks.now (omega arith) g.0 in
    whole a.document a.marks.now a.out.now taken _ _ _ g.1 (omega arith) refl c.write_rows.ensures
