-- The invariant and the measure of `pass_both`; Answers.antt says why they hold.
use Prim.Native.Nat.{◌+◌, ◌-◌}
use lib.ListN.{length}
use Rattle.lists.specs.Private.Both.{BetweenDocuments}
use Rattle.lists.proofs.both.pass_both.Given as goal

abbrev pub invariant-loop-place : goal.invariant-loop-place
invariant-loop-place l = BetweenDocuments l.first l.place.first l.second l.place.second l.stack

abbrev pub decreases-loop-place : goal.decreases-loop-place
decreases-loop-place l = length l.first + length l.second - (l.place.first + l.place.second)
