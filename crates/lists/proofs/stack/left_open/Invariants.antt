-- The invariant and the measure of `left_open`; Answers.antt says why they hold.
use mathlib.Core.Path.{◌≡◌}
use mathlib.Core.List.{List}
use Prim.Native.Nat.{◌%◌, ◌≤◌}
use Rattle.laws.specs.Choose.{All}
use Rattle.nodes.specs.declared.node.Node.{Node}
use Rattle.lists.specs.Private.Open.{Laid}
use Rattle.lists.proofs.StackLaws.{Peeled}
use Rattle.lists.proofs.stack.left_open.Given as goal

abbrev pub invariant-loop-left : goal.invariant-loop-left
invariant-loop-left l =
    (l.left % 2 ≡ 0) × (l.left ≤ l.top)
    × ((n : Node) (s : List Node) → n.start ≡ l.start → All (λ e. e.document ≡ n.document) s → Laid s l.top l.stack → Peeled n s l.left l.stack)

abbrev pub decreases-loop-left : goal.decreases-loop-left
decreases-loop-left l = l.left
