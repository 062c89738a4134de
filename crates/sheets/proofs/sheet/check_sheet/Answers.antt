-- Function: `check_sheet` (src/sheet.rt).
-- Why it holds: The tests are tried in the order of `check_sheet`, and each return is the fault of
-- the first that fails, or of none.
-- What would break it: A test out of its turn, or another word's index, would be caught at its
-- return.
use mathlib.Core.Path.{◌≡◌, sym, ap, ◌∙◌}
use mathlib.Core.List.{List}
use Prim.Native.Nat.{ℕ, ◌≤◌}
use native.Mathlib.Omega.{arith}
use lib.ListN.{length}
use Rattle.std.specs.Prelude.{Some, position}
use Rattle.std.proofs.lemmas.Result.{err_from_is_err_and}
use Rattle.answers.specs.Answer.{TAKEN, READING}
use Rattle.answers.specs.declared.verdict.Verdict.{Verdict}
use Rattle.answers.specs.Refusal.{verdict_of, verdict_in}
use Rattle.answers.specs.Verdict.{ANCESTORS, verdict}
use Rattle.answers.proofs.RefusalLaws.{never_taken}
use Rattle.laws.proofs.First.{first_in}
use Rattle.nodes.specs.Words.{MOST_NODES, count}
use Rattle.lists.specs.Two.{check_two}
use Rattle.lists.proofs.Pairing.{two_taken_iff}
use Rattle.lists.proofs.Taken.{words_taken_iff}
use Rattle.sheets.specs.Hundredths.{faulty_wordb}
use Rattle.sheets.specs.Sheet.{check_sheet}
use Rattle.sheets.proofs.Answered.{lists_fail, count_fails, word_fails, none_fails}
use Rattle.sheets.proofs.FaultyWords.{position_some, position_none}
use Rattle.sheets.proofs.sheet.check_sheet.Goals as goal

abbrev number : Verdict → ℕ
number v = v.answer

module _ (zones samples hundredths : List ℕ) (pass : (check_two zones samples).answer ≡ TAKEN) (m : length hundredths ≡ count samples) where
  few : (i : ℕ) → Some i ≡ position faulty_wordb hundredths → i ≤ MOST_NODES
  few i q =
      let n = ((words_taken_iff samples).0 ((two_taken_iff zones samples).0 pass).1).1 in
      omega (arith, n, m, (position_some hundredths i q).1, first_in faulty_wordb hundredths)

  word_refused : (i : ℕ) → Some i ≡ position faulty_wordb hundredths → verdict READING ANCESTORS i ≡ check_sheet zones samples hundredths
  word_refused i q =
      let f = position_some hundredths i q in
      ap (verdict READING ANCESTORS) f.1 ∙ sym (word_fails zones samples hundredths pass m f.0)

pub returns-in_err-check_two : goal.returns-in_err-check_two
returns-in_err-check_two c =
    let a = c.args in
    let e = err_from_is_err_and _ c.from_residual.ensures.1 in
    let q = c.in_err-check_two.ensures in
    ap verdict_in e.1 ∙ ap verdict_of e.2 ∙ q ∙ sym (lists_fail a.zones.now a.samples.now a.hundredths.now (λ t. never_taken _ (ap number q ∙ t)))

pub returns-then-hundredths-node_count : goal.returns-then-hundredths-node_count
returns-then-hundredths-node_count c =
    let a = c.args in
    let t = sym (ap number c.in_ok-check_two.ensures) in
    ap verdict_of c.into.ensures
    ∙ sym (count_fails a.zones.now a.samples.now a.hundredths.now t (λ m. c.if-hundredths-node_count.true (m ∙ sym c.node_count.ensures)))

pub overflow_cast-result : goal.overflow_cast-result
overflow_cast-result c =
    let a = c.args in
    let t = sym (ap number c.in_ok-check_two.ensures) in
    omega (arith, few a.zones.now a.samples.now a.hundredths.now t (omega arith) _ c.in-Some.ensures)

pub returns-in-Some : goal.returns-in-Some
returns-in-Some c =
    let a = c.args in
    let t = sym (ap number c.in_ok-check_two.ensures) in
    word_refused a.zones.now a.samples.now a.hundredths.now t (omega arith) _ c.in-Some.ensures

pub returns : goal.returns
returns c =
    let a = c.args in
    let t = sym (ap number c.in_ok-check_two.ensures) in
    sym (none_fails a.zones.now a.samples.now a.hundredths.now t (omega arith) (position_none a.hundredths.now c.in_default.ensures))
