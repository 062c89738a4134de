-- Function: `pass_node` (src/walk.rt).
-- Why it holds: Each return is one case of `step_fault`, and the tests on the way to it give the
-- facts that the case asks for.
-- What would break it: A test left out, or tried in another order, would be caught at the return
-- after it.
use mathlib.Core.Path.{refl}
use native.Mathlib.Omega.{arith}
use Rattle.lists.specs.Private.Walk.{unended}
use Rattle.lists.proofs.Keeping.{next_there, next_passed, next_begun}
use Rattle.lists.proofs.StackLaws.{held_asks}
use Rattle.lists.proofs.Steps.{left_held, passed_low, passed_high, passed_span, passed_order, passed_first, passed_rest}
use Rattle.lists.proofs.walk.pass_node.Goals as goal

pub returns-then-node-eq0 : goal.returns-then-node-eq0
returns-then-node-eq0 c =
    let a = c.args in
    λ s h. passed_low a.place s a.node _ _ (omega arith) c.refused.ensures

pub returns-then-node-gt-MOST_LEVELS : goal.returns-then-node-gt-MOST_LEVELS
returns-then-node-gt-MOST_LEVELS c =
    let a = c.args in
    λ s h. passed_high a.place s a.node _ _ (omega arith) (omega arith) c.refused-then-node-gt-MOST_LEVELS.ensures

pub returns-then-node : goal.returns-then-node
returns-then-node c =
    let a = c.args in
    λ s h. passed_span a.place s a.node _ _ (omega arith) (omega arith) (omega arith) c.refused-then-node.ensures

pub returns-then-node-place-2 : goal.returns-then-node-place-2
returns-then-node-place-2 c =
    let a = c.args in
    λ s h. passed_order a.place s a.node _ _ (record { lowest = omega arith; highest = omega arith; span = omega arith })
    (next_passed _ _ a.node (omega arith)) c.refused-then-node-place-2.ensures

pub returns-then-node-place : goal.returns-then-node-place
returns-then-node-place c =
    let a = c.args in
    λ s h. passed_first a.place s a.node a.stack.now _ _ (record { lowest = omega arith; highest = omega arith; span = omega arith }) h
    (omega arith) c.push.ensures

pub returns-then-node-place-3 : goal.returns-then-node-place-3
returns-then-node-place-3 c =
    let a = c.args in
    λ s h. passed_order a.place s a.node _ _ (record { lowest = omega arith; highest = omega arith; span = omega arith })
    (next_begun _ _ a.node (omega arith) (omega arith)) c.refused-then-node-place-3.ensures

pub left_open-left-requires : goal.left_open-left-requires
left_open-left-requires c = held_asks _ _ _ _ c.requires.1

pub put_on_top-requires : goal.put_on_top-requires
put_on_top-requires c =
    let a = c.args in
    let held = c.requires.1 in
    let left = c.left_open-left.ensures in (
      omega arith,
      omega arith,
      omega arith,
      omega arith,
      record {
        chain = unended a.node held.chain;
        holds =
            left_held a.place _ a.stack.now a.node (omega arith) (omega arith) left.under held.chain held.holds
            (left.left a.node held.chain refl);
      },
    )

pub returns : goal.returns
returns c =
    let a = c.args in
    let left = c.left_open-left.ensures in
    λ s h. passed_rest a.place s a.node c.put_on_top.new.stack c.put_on_top.result (record { lowest = omega arith; highest = omega arith; span = omega arith })
    (next_there _ _ a.node (omega arith) (omega arith)) (unended a.node s) refl
    (c.put_on_top.ensures (unended a.node s)
    (left_held a.place _ a.stack.now a.node (omega arith) (omega arith) left.under s h (left.left a.node s refl)))
