-- Function: `open_before` (src/open.rt).
-- Why it holds: At each turn, the ancestors on the stack stand for all that were passed, and all of
-- them are open at the descendant. One that has ended leaves the stack as it is, and so do all that
-- lie inside it.
-- Measure: `length ancestors - i`, the words of the ancestors still to come.
-- What would break it: An open ancestor that is passed over would be caught at the next turn or at
-- the return.
use mathlib.Core.Path.{◌≡◌, sym, ap, ◌∙◌}
use mathlib.Core.Bool.{Bool, true}
use Prim.Native.Nat.{◌/◌}
use native.Mathlib.Omega.{arith}
use Rattle.nodes.specs.declared.node.Node.{Node}
use Rattle.nodes.specs.Node.{afterb}
use Rattle.pairs.proofs.Jumps.{jump_passed}
use Rattle.pairs.proofs.OpenStack.{next_fits, next_passed, passing_ends, passing_done}
use Rattle.pairs.proofs.open.open_before.Goals as goal

-- The ancestor stands before the descendant.
before : (d : Node) {x y n : Node} {r : Bool} → x ≡ n → y ≡ n → r ≡ afterb d x → r ≡ true → afterb d y ≡ true
before d x_at y_at tested holds = ap (afterb d) (y_at ∙ sym x_at) ∙ sym tested ∙ holds

pub loop-i-init : goal.loop-i-init
loop-i-init g c = (c.requires.1, c.requires.2)

pub node_from-requires : goal.node_from-requires
node_from-requires g c = (c.loop-i.invariant.0.passed_in, c.loop-i-test.true)

pub returns-then-not-is_after : goal.returns-then-not-is_after
returns-then-not-is_after g c =
    let a = c.args in
    let l = c.loop-i in record {
      opening = l.invariant.0;
      all_open = l.invariant.1;
      rest = passing_ends a.ancestors.now a.descendant c.requires.0 _ _
          c.node_from.ensures (sym c.is_after.ensures ∙ c.if-not-is_after.true);
    }

pub node_from-requires-in-loop-i : goal.node_from-requires-in-loop-i
node_from-requires-in-loop-i g c = (c.loop-i.invariant.0.passed_in, c.loop-i-test.true)

pub open_next-grown-requires : goal.open_next-grown-requires
open_next-grown-requires g c =
    let a = c.args in
    let earlier = before a.descendant c.node_from.ensures c.node_from-in-loop-i.ensures c.is_after.ensures c.if-not-is_after.false in
    let l = c.loop-i in
    next_fits a.ancestors.now a.descendant c.requires.0 _ _ _ _ l.invariant.0 l.invariant.1 (omega arith) c.node_from-in-loop-i.ensures earlier

pub past_zone-i-requires : goal.past_zone-i-requires
past_zone-i-requires g c =
    let l = c.loop-i in
    (c.requires.0, l.invariant.0.passed_in, c.loop-i-test.true)

pub loop-i-smaller-then-grown-reached : goal.loop-i-smaller-then-grown-reached
loop-i-smaller-then-grown-reached g c =
    let e = c.past_zone-i.ensures.later in
    let t = c.loop-i-test.true in
    omega arith

pub loop-i-preserved-then-grown-reached : goal.loop-i-preserved-then-grown-reached
loop-i-preserved-then-grown-reached g c =
    let a = c.args in
    let earlier = before a.descendant c.node_from.ensures c.node_from-in-loop-i.ensures c.is_after.ensures c.if-not-is_after.false in
    let l = c.loop-i in
    let e = c.open_next-grown.ensures in
    let jumped = jump_passed a.ancestors.now c.requires.0 a.descendant _ _ _ _ l.invariant.0 l.invariant.1 c.node_from-in-loop-i.ensures earlier
    _ _ _ e.fits c.if-grown-reached.true e.stack c.past_zone-i.ensures in
    jumped

pub loop-i-preserved : goal.loop-i-preserved
loop-i-preserved g c =
    let a = c.args in
    let earlier = before a.descendant c.node_from.ensures c.node_from-in-loop-i.ensures c.is_after.ensures c.if-not-is_after.false in
    let l = c.loop-i in
    let e = c.open_next-grown.ensures in
    let passed = next_passed a.ancestors.now a.descendant c.requires.0 _ _ _ _ l.invariant.0 l.invariant.1 (omega arith) c.node_from-in-loop-i.ensures earlier
    _ _ e.fits e.stack in
    passed

pub returns : goal.returns
returns g c =
    let a = c.args in
    let l = c.loop-i in record {
      opening = l.invariant.0;
      all_open = l.invariant.1;
      rest = passing_done a.ancestors.now a.descendant c.requires.0 (l.i / 4)
          (let p = l.invariant.0.passed_in in omega arith);
    }
