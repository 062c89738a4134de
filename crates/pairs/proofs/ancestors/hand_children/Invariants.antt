-- The invariant and the measure of `hand_children`; Answers.antt says why they hold.
use Prim.Native.Nat.{◌+◌, ◌-◌, ◌/◌, ◌%◌, ◌≤◌, ◌<◌}
use mathlib.Core.Path.{◌≡◌}
use mathlib.Core.Bool.{true}
use lib.ListN.{length, drop}
use Rattle.nodes.specs.Words.{nodes, node_at}
use Rattle.tickets.specs.declared.ticket.Order.TheVariants.{Ancestor}
use Rattle.tickets.specs.declared.ticket.Relation.TheVariants.{Directly}
use Rattle.tickets.specs.Private.Group.{matches}
use Rattle.tickets.specs.Ticket.{asked}
use Rattle.pairs.specs.Private.Sweep.{Placed, served_group}
use Rattle.pairs.proofs.ancestors.hand_children.Given as goal

abbrev pub invariant-loop-k : goal.invariant-loop-k
invariant-loop-k l =
    (length l.out ≡ length l.initial.out) × (l.level ≡ (node_at l.ancestors (l.i / 4)).level + 1) × Placed l.ancestors l.zone × (l.i < l.zone) × (l.k % 4 ≡ 0) × (l.from ≤ l.k)
    × (l.handed.done ≡ true)
    × (served_group Ancestor l.out l.handed.count (node_at l.ancestors (l.i / 4))
    (matches (asked Directly Ancestor) (node_at l.ancestors (l.i / 4)) (drop (l.k / 4) (nodes l.descendants)))
    ≡ served_group Ancestor l.initial.out l.written (node_at l.ancestors (l.i / 4))
    (matches (asked Directly Ancestor) (node_at l.ancestors (l.i / 4)) (drop (l.from / 4) (nodes l.descendants))))

abbrev pub decreases-loop-k : goal.decreases-loop-k
decreases-loop-k l = l.to - l.k
