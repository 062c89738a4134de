-- The invariant of `pass_marks`; Answers.antt says why they hold.
use lib.ListN.{drop}
use Rattle.marks.specs.Private.Walk.{mark_place as at, walked}
use Rattle.marks.proofs.Passing.{Walk}
use Rattle.marks.proofs.mark.pass_marks.Given as goal

abbrev pub invariant-loop-passed : goal.invariant-loop-passed
invariant-loop-passed l = Walk l.passed l.place (drop l.passed l.marks) (walked 1 (at 0 0) l.marks)
