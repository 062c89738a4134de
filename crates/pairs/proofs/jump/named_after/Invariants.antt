-- The invariant and the measure of `named_after`; Answers.antt says why they hold.
use Prim.Native.Nat.{◌+◌, ◌*◌, ◌<◌}
use lib.ListN.{length}
use Rattle.pairs.proofs.jump.named_after.Given as goal

abbrev pub invariant-loop-i : goal.invariant-loop-i
invariant-loop-i l = 3 * l.i + 2 < length l.links

abbrev pub decreases-loop-i : goal.decreases-loop-i
decreases-loop-i l = l.i
