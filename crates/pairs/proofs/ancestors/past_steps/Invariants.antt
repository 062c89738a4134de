-- The invariant and the measure of `past_steps`; Answers.antt says why they hold.
use Prim.Native.Nat.{◌+◌, ◌-◌}
use lib.ListN.{length}
use Rattle.pairs.specs.Private.Sweep.{Further}
use Rattle.pairs.proofs.ancestors.past_steps.Given as goal

abbrev pub invariant-loop-ancestor : goal.invariant-loop-ancestor
invariant-loop-ancestor g l = Further l.descendants l.ancestor l.from l.k

abbrev pub decreases-loop-ancestor : goal.decreases-loop-ancestor
decreases-loop-ancestor g l = length l.descendants + g.row.STEP - l.k
