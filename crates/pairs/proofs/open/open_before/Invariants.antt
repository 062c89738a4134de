-- The invariant and the measure of `open_before`; Answers.antt says why they hold.
use mathlib.Core.Path.{◌≡◌}
use mathlib.Core.Bool.{true}
use Prim.Native.Nat.{◌-◌}
use lib.ListN.{length}
use Rattle.laws.specs.Choose.{All}
use Rattle.nodes.specs.Node.{openb}
use Rattle.pairs.specs.Private.Stack.{opened}
use Rattle.pairs.specs.Private.Sweep.{Opening}
use Rattle.pairs.proofs.open.open_before.Given as goal

abbrev pub invariant-loop-i : goal.invariant-loop-i
invariant-loop-i g l =
    Opening l.ancestors l.descendant l.reached l.i l.stack × All (λ e. openb l.descendant e ≡ true) (opened l.reached l.stack)

abbrev pub decreases-loop-i : goal.decreases-loop-i
decreases-loop-i g l = length l.ancestors - l.i
