-- The invariant and the measure of `elder_of`; Answers.antt says why they hold.
use Rattle.nodes.specs.Words.{nodes}
use Rattle.forest.proofs.Climbing.{Passed}
use Rattle.forest.proofs.climb.elder_of.Given as goal

abbrev pub invariant-loop-parent : goal.invariant-loop-parent
invariant-loop-parent l = Passed (nodes l.list) l.index l.elder

abbrev pub decreases-loop-parent : goal.decreases-loop-parent
decreases-loop-parent l = l.elder
