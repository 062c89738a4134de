-- The invariant and the measure of `pass_run`; Answers.antt says why they hold.
use Prim.Native.Nat.{◌-◌}
use lib.ListN.{length}
use Rattle.lists.proofs.Runs.{RunAlong}
use Rattle.lists.proofs.both.pass_run.Given as goal

abbrev pub invariant-loop-place : goal.invariant-loop-place
invariant-loop-place l = RunAlong l.words l.document l.limit l.initial.place l.initial.stack l.place l.stack

abbrev pub decreases-loop-place : goal.decreases-loop-place
decreases-loop-place l = length l.words - l.place.at
