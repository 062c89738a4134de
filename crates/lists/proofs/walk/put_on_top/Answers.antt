-- Function: `put_on_top` (src/walk.rt).
-- Why it holds: Each return is one case of `head_fault`, decided by the end and the level at the
-- top of the stack. The bottom ends too late and lies too low to refuse a node.
-- What would break it: A test left out would be caught at the return after it, and a stack without
-- room at the push.
use mathlib.Core.Path.{refl}
use native.Mathlib.Omega.{arith}
use Rattle.lists.proofs.StackLaws.{room_told}
use Rattle.lists.proofs.Steps.{onto_cross, onto_depth, onto_head}
use Rattle.lists.proofs.walk.put_on_top.Goals as goal

pub returns-then-stack-left : goal.returns-then-stack-left
returns-then-stack-left c =
    let a = c.args in
    λ s h. onto_cross a.stack.now a.left a.node _ _ _ s h (omega arith) (omega arith) c.refused.ensures

pub returns-then-node-stack : goal.returns-then-node-stack
returns-then-node-stack c =
    let a = c.args in
    λ s h. onto_depth a.stack.now a.left a.node _ _ _ s h (omega arith) (omega arith) (omega arith) c.refused-then-node-stack.ensures

pub push-requires : goal.push-requires
push-requires c =
    let a = c.args in
    let held = c.requires.4 in
    (omega arith, room_told a.node.document a.left a.stack.now a.node refl held.chain held.holds (omega arith) (omega arith))

pub returns : goal.returns
returns c =
    let a = c.args in
    λ s h. onto_head a.stack.now a.left a.node _ _ _ s h (omega arith) (omega arith) (omega arith) (omega arith) c.push.ensures
