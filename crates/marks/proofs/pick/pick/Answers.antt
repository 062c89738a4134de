-- Function: `pick` (src/pick.rt).
-- Why it holds: The rows may be any, so only the words are checked. The room needed is that of the
-- nodes counted, and they are written last.
-- What would break it: Room for rows in place of nodes, or the count of all rows, would be caught
-- at its return.
use mathlib.Core.Path.{◌≡◌, sym, ap, ◌∙◌}
use mathlib.Core.List.{List}
use Prim.Native.Nat.{ℕ, ◌≤◌, ◌<◌}
use native.Mathlib.Omega.{arith}
use lib.ListN.{length}
use Rattle.std.specs.Prelude.{Err}
use Rattle.std.proofs.lemmas.Result.{err_from_is_err_and}
use Rattle.answers.specs.Answer.{TAKEN, ROOM}
use Rattle.answers.specs.Refusal.{number_of, counted_in}
use Rattle.answers.specs.declared.refusal.Fault.{Fault}
use Rattle.answers.specs.declared.refusal.Refusal.{Refusal}
use Rattle.answers.proofs.RefusalLaws.{never_taken}
use Rattle.nodes.specs.Words.{count}
use Rattle.answers.specs.Output.{written}
use Rattle.answers.specs.declared.verdict.Counted.{Counted}
use Rattle.marks.specs.Outcome.{outcome, nodes_with, picked_words, pick_outcome, pick_output}
use Rattle.marks.specs.Table.{rows, row_fault}
use Rattle.answers.proofs.OutputLaws.{answer_fault, answer_room, answer_taken}
use Rattle.marks.proofs.Outcomes.{all_refused, all_written}
use Rattle.marks.proofs.Picking.{length_picked}
use Rattle.marks.proofs.pick.pick.Goals as goal

module _ (table : List ℕ) (tag : ℕ) (out : List ℕ) where
  abbrev Picked : Counted → List ℕ → Type 0
  Picked r after = record { answer : r ≡ pick_outcome table tag out; output : after ≡ pick_output table tag out }

  faulty : (r : Refusal) → number_of r ≡ row_fault table → Picked (outcome (number_of r) 0) out
  unfolding pick_outcome pick_output
  faulty r e =
      let h = never_taken r in
      let a = answer_fault (row_fault table) (picked_words tag table) out (λ z. h (e ∙ z)) ∙ sym e in
      let t = all_refused (row_fault table) (picked_words tag table) out (length (nodes_with tag (rows table))) (number_of r) a h in
      record { answer = t.0; output = t.1 }

  module _ (taken : TAKEN ≡ row_fault table) (found : ℕ) (q : found ≡ length (nodes_with tag (rows table))) where
    no_room : (r : Counted) → count out < found → r ≡ outcome ROOM 0 → Picked r out
    unfolding pick_outcome pick_output
    no_room r l f =
        let a = answer_room (row_fault table) (picked_words tag table) out (sym taken) (omega (arith, length_picked tag table)) in
        let t = all_refused (row_fault table) (picked_words tag table) out (length (nodes_with tag (rows table))) ROOM a (λ z. omega arith) in
        record { answer = f ∙ t.0; output = t.1 }

    whole : (after : List ℕ) → found ≤ count out → after ≡ written (picked_words tag table) out → Picked (outcome TAKEN found) after
    unfolding pick_outcome pick_output
    whole after l f =
        let a = answer_taken (row_fault table) (picked_words tag table) out (sym taken) (omega (arith, length_picked tag table)) in
        let t = all_written (row_fault table) (picked_words tag table) out (length (nodes_with tag (rows table))) a in
        record { answer = ap (λ n. outcome TAKEN n) q ∙ t.0; output = f ∙ t.1 }

pub returns-in_err-check_rows : goal.returns-in_err-check_rows
returns-in_err-check_rows c =
    let a = c.args in
    let p = err_from_is_err_and c.from_residual.result c.from_residual.ensures.1 in
    rw (p.1, p.2) (faulty a.table.now a.tag a.out.now _ c.in_err-check_rows.ensures)

pub returns-then-node_count-found : goal.returns-then-node_count-found
returns-then-node_count-found c =
    let a = c.args in
    no_room a.table.now a.tag a.out.now c.in_ok-check_rows.ensures _ c.count_tag-found.ensures _ (omega arith)
    (ap (λ (f : Fault). counted_in (Err f)) c.into.ensures)

pub returns : goal.returns
returns c =
    let a = c.args in
    whole a.table.now a.tag a.out.now c.in_ok-check_rows.ensures _ c.count_tag-found.ensures _ (omega arith) c.put_tag.ensures
