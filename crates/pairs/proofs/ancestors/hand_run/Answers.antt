-- Function: `hand_run` (src/ancestors.rt).
-- Why it holds: All of the run lies inside the ancestor, so for `Inside` the run is handed out as
-- it lies. For `Directly` its children are.
-- What would break it: Swapped relations, or a run cut short, would be caught at a return.
use Prim.Native.Nat.{◌/◌}
use Rattle.nodes.specs.Words.{node_at}
use Rattle.tickets.specs.declared.ticket.Order.TheVariants.{Ancestor}
use Rattle.pairs.proofs.Running.{run_stretch}
use Rattle.pairs.proofs.Stretches.{served_as}
use Rattle.pairs.proofs.ancestors.hand_run.Goals as goal

pub returns-in-Inside : goal.returns-in-Inside
returns-in-Inside c =
    let a = c.args in
    let p = c.requires in
    rw c.in-Inside.is
    (served_as Ancestor a.out.now a.written (node_at a.ancestors.now (a.i / 4)) c.hand_group.ensures
    (run_stretch a.descendants.now (node_at a.ancestors.now (a.i / 4)) a.from a.to p.5 p.6))

pub returns-in-Directly : goal.returns-in-Directly
returns-in-Directly c = rw c.in-Directly.is c.hand_children.ensures
