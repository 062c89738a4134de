-- Function: `write_sheet` (src/sheet.rt).
-- Why it holds: The call returns before it writes where the checks find a fault or the room is too
-- small. Otherwise all rows are written and the zones counted.
-- What would break it: A count on refusal, or room counted in words and not in rows, would be
-- caught at its return.
use mathlib.Core.Path.{◌≡◌, refl, sym, ap, ◌∙◌}
use mathlib.Core.List.{List}
use Prim.Native.Nat.{ℕ}
use native.Mathlib.Omega.{arith}
use Rattle.std.proofs.lemmas.Result.{err_from_is_err_and}
use Rattle.answers.specs.Refusal.{verdict_of, counted_in}
use Rattle.answers.specs.Verdict.{taken, counted}
use Rattle.answers.proofs.RefusalLaws.{never_taken}
use Rattle.lists.proofs.Pairing.{two_taken_iff}
use Rattle.lists.proofs.Taken.{words_taken_iff}
use Rattle.sheets.specs.Private.Walk.{Measured}
use Rattle.sheets.specs.Sheet.{check_sheet}
use Rattle.sheets.proofs.Answered.{Checked, check_taken}
use Rattle.sheets.proofs.Answering.{refused, no_room, all_written}
use Rattle.sheets.proofs.sheet.write_sheet.Goals as goal

module _ (zones samples hundredths : List ℕ) (q : taken ≡ check_sheet zones samples hundredths) where
  passed : Checked zones samples hundredths
  passed = (check_taken zones samples hundredths (sym (ap (λ v. v.answer) q))).0

  measured : Measured samples hundredths
  measured = record { few = ((words_taken_iff samples).0 ((two_taken_iff zones samples).0 passed.0).1).1; matched = passed.1; words = passed.2 }

pub returns-in_err-check_sheet : goal.returns-in_err-check_sheet
returns-in_err-check_sheet c =
    let a = c.args in
    let e = err_from_is_err_and _ c.from_residual.ensures.1 in
    let w = refused a.zones.now a.samples.now a.hundredths.now a.out.now _ c.in_err-check_sheet.ensures (never_taken _) in
    record { answer = ap counted_in e.1 ∙ ap (λ f. counted (verdict_of f) 0) e.2 ∙ w.answer; output = w.output }

pub returns-then-out-node_count : goal.returns-then-out-node_count
returns-then-out-node_count c =
    let a = c.args in
    no_room a.zones.now a.samples.now a.hundredths.now a.out.now _ c.in_ok-check_sheet.ensures refl _ (omega arith)
    (ap (λ f. counted (verdict_of f) 0) c.into.ensures)

pub walk_all-requires : goal.walk_all-requires
walk_all-requires c =
    let a = c.args in
    let q = c.in_ok-check_sheet.ensures in
    record {
      lists = (passed a.zones.now a.samples.now a.hundredths.now q).0;
      measured = measured a.zones.now a.samples.now a.hundredths.now q;
      room = omega arith;
    }

pub returns : goal.returns
returns c =
    let a = c.args in
    all_written a.zones.now a.samples.now a.hundredths.now a.out.now _ c.in_ok-check_sheet.ensures refl (omega arith) _ c.node_count-2.ensures _ refl _
    c.walk_all.ensures
