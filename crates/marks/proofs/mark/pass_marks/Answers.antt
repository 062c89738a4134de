-- Function: `pass_marks` (src/mark.rt).
-- Why it holds: What is left to walk leads to the answer of the whole walk. So the first refusal
-- and the place at the end are the whole walk's.
-- What would break it: A walk that stopped one mark early, or took marks that end with an element
-- open, would be caught at its return.
use mathlib.Core.Path.{sym, ap, ◌∙◌}
use native.Mathlib.Omega.{arith}
use borrow.Author.Tests.{eqb-true, eqb-false}
use Rattle.marks.specs.Private.Walk.{numbered}
use Rattle.marks.proofs.Passing.{walk_start, walk_on, walk_stop, none_passed, left_open, all_closed}
use Rattle.marks.proofs.mark.pass_marks.Goals as goal
use Rattle.marks.proofs.mark.pass_marks.Goals.{then-is_empty-via-then-is_empty, then-is_empty-via-else-is_empty+then-place-gt0}

pub loop-passed-init : goal.loop-passed-init
loop-passed-init c = walk_start _

pub pass_mark-step-requires : goal.pass_mark-step-requires
pass_mark-step-requires c = let w = c.loop-passed.invariant in (omega (arith, w.depth), omega (arith, w.rows))

pub returns-in_default : goal.returns-in_default
returns-in_default c =
    let q = c.in_default.is in
    rw q (walk_stop c.args.marks.now c.loop-passed.invariant (omega arith) _ (ap numbered (sym q) ∙ c.pass_mark-step.ensures))

pub loop-passed-preserved : goal.loop-passed-preserved
loop-passed-preserved c = walk_on c.args.marks.now c.loop-passed.invariant (omega arith) _ (ap numbered (sym c.in-Ok.is) ∙ c.pass_mark-step.ensures)

pub returns-then-is_empty : goal.returns-then-is_empty
returns-then-is_empty c =
    let l = c.loop-passed in
    elim c.then-is_empty.branch [
      | then-is_empty-via-then-is_empty w ↦ let e = eqb-true _ _ (sym c.is_empty.ensures ∙ w.if-is_empty.true) in
          none_passed c.args.marks.now l.invariant (omega arith) (omega (arith, e))
      | then-is_empty-via-else-is_empty+then-place-gt0 w ↦ left_open c.args.marks.now l.invariant (omega arith) (omega arith)
    ]

pub returns : goal.returns
returns c =
    let n = eqb-false _ _ (sym c.is_empty.ensures ∙ c.if-is_empty.false) in
    all_closed c.args.marks.now c.loop-passed.invariant (omega arith) (λ z. n (omega arith)) (omega arith)
