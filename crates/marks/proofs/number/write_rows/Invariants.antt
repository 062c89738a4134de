-- The invariant of `write_rows`; Answers.antt says why they hold.
use Rattle.marks.proofs.Backward.{Back}
use Rattle.marks.proofs.number.write_rows.Given as goal

abbrev pub invariant-loop-before : goal.invariant-loop-before
invariant-loop-before l = Back l.document l.marks l.initial.out l.before l.closes l.place l.out
