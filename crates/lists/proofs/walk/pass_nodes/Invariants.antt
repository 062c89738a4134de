-- The invariant of `pass_nodes`; Answers.antt says why it holds.
use mathlib.Core.Path.{◌≡◌}
use mathlib.Core.List.{List}
use Prim.Native.Nat.{◌≤◌}
use lib.ListN.{length, drop}
use Rattle.nodes.specs.declared.node.Node.{Node}
use Rattle.lists.specs.Check.{check_nodes}
use Rattle.lists.specs.Private.Open.{Held}
use Rattle.lists.specs.Private.Stepping.{HandsOut}
use Rattle.lists.proofs.Walking.{Walk}
use Rattle.lists.proofs.walk.pass_nodes.Given as goal

abbrev pub invariant-loop-index : goal.invariant-loop-index
invariant-loop-index g l =
    (l.index ≤ l.count) × (l.place.index ≡ l.index) × Held l.place.document l.place.from l.place.top l.stack
    × ((ns : List Node) → length ns ≡ l.count → HandsOut (λ i n. goal.F-post g l.node i n) ns → Walk l.place l.stack (drop l.index ns) (check_nodes ns))
