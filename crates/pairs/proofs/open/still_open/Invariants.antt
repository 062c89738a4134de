-- The invariant and the measure of `still_open`; Answers.antt says why they hold.
use Prim.Native.Nat.{◌≤◌}
use mathlib.Core.Path.{◌≡◌}
use Rattle.lists.specs.Private.Walk.{unended}
use Rattle.pairs.specs.Private.Stack.{opened, Fits}
use Rattle.pairs.proofs.open.still_open.Given as goal

abbrev pub invariant-loop-left : goal.invariant-loop-left
invariant-loop-left l = Fits l.left × (l.left ≤ l.used) × (unended l.node (opened l.left l.stack) ≡ unended l.node (opened l.used l.stack))

abbrev pub decreases-loop-left : goal.decreases-loop-left
decreases-loop-left l = l.left
