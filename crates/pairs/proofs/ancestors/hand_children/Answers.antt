-- Function: `hand_children` (src/ancestors.rt).
-- Why it holds: At each turn, handing out the children from here on gives what handing out all of
-- them gives. A descendant one level deeper is handed out, and any other is passed, with what an
-- inner zone holds.
-- Measure: `to - k`, the words of the run still to come.
-- What would break it: A child that is lost or handed out twice would be caught at the next turn.
use borrow.Author.Rules.{rules}
use Prim.Native.Nat.{◌/◌}
use mathlib.Core.Path.{◌≡◌, refl, sym, ap, ◌∙◌}
use mathlib.Core.Bool.{true}
use native.Mathlib.Omega.{arith}
use Rattle.nodes.specs.declared.node.Node.{Node}
use Rattle.nodes.specs.Words.{node_at}
use Rattle.laws.proofs.Tests.{not_read, not_none}
use Rattle.paging.proofs.Serving.{left_end}
use Rattle.tickets.specs.declared.ticket.Order.TheVariants.{Ancestor}
use Rattle.tickets.specs.declared.ticket.Relation.TheVariants.{Directly}
use Rattle.tickets.specs.PairWords.{PAIR_WORDS, pair_words}
use Rattle.pairs.specs.Private.Sweep.{served_group}
use Rattle.pairs.proofs.Children.{group_none, child_on, child_stop, inner_passed, level_fits}
use Rattle.pairs.proofs.Running.{none_match}
use Rattle.pairs.proofs.ancestors.hand_children.Goals as goal

pub overflow_add-level : goal.overflow_add-level
overflow_add-level c =
    let a = c.args in
    let p = c.requires in
    let h = level_fits a.ancestors.now a.descendants.now p.0 (a.i / 4) _ (omega arith) c.node_from-level.ensures in
    omega arith

pub loop-k-init : goal.loop-k-init
loop-k-init c =
    let a = c.args in
    let p = c.requires in
    let e = ap (λ (n : Node). n.level) c.node_from-level.ensures in
    (refl, omega (arith, e), (p.1.0, omega (arith, p.1), omega (arith, p.1)), omega arith, p.3.1, omega arith, refl, refl)

pub node_from-requires : goal.node_from-requires
node_from-requires c =
    let p = c.requires in
    let l = c.loop-k in
    ((p.3.0, l.invariant.4, omega (arith, p.4)), omega (arith, p.4))

pub overflow_add-k : goal.overflow_add-k
overflow_add-k c =
    let p = c.requires.4 in
    let t = c.loop-k-test.true in
    search rules

pub hand_group-handed-requires : goal.hand_group-handed-requires
hand_group-handed-requires c =
    let p = c.requires in
    let l = c.loop-k in
    let m = l.invariant.4 in
    let t = c.loop-k-test.true in
    (p.1, p.2, (p.3.0, m, omega (arith, p.4)), (p.3.0, omega arith, omega (arith, p.4)))

pub returns-then-not-handed : goal.returns-then-not-handed
returns-then-not-handed c =
    let a = c.args in
    let p = c.requires in
    let l = c.loop-k in
    let i = l.invariant in
    let t = c.loop-k-test.true in
    child_stop a.descendants.now (node_at a.ancestors.now (a.i / 4)) a.from l.k _ _ (p.3.0, i.4, omega (arith, p.4)) (omega (arith, p.4))
    p.5 i.5 (omega (arith, p.6, i.4, p.4)) c.node_from.ensures c.if-node_from-level.true i.1
    _ _ c.hand_group-handed.ensures (not_read _ c.if-not-handed.true) i.7

pub overflow_add-k-then-node_from-level : goal.overflow_add-k-then-node_from-level
overflow_add-k-then-node_from-level c =
    let p = c.requires.4.2 in
    let t = c.loop-k-test.true in
    let fits = c.well_formed in
    omega arith

pub loop-k-preserved-then-node_from-level : goal.loop-k-preserved-then-node_from-level
loop-k-preserved-then-node_from-level c =
    let a = c.args in
    let p = c.requires in
    let l = c.loop-k in
    let i = l.invariant in
    let t = c.loop-k-test.true in
    let done : c.hand_group-handed.result.done ≡ true = not_none _ c.if-not-handed.false in
    let left = child_on a.descendants.now (node_at a.ancestors.now (a.i / 4)) a.from l.k _ _ (p.3.0, i.4, omega (arith, p.4)) (omega (arith, p.4))
    p.5 i.5 (omega (arith, p.6, i.4, p.4)) c.node_from.ensures c.if-node_from-level.true i.1
    _ _ c.hand_group-handed.ensures done i.7 in (
      omega arith,
      i.1,
      i.2,
      i.3,
      omega (arith, i.4),
      omega (arith, i.5),
      done,
      left,
    )

pub past_inner-passed-requires : goal.past_inner-passed-requires
past_inner-passed-requires c =
    let p = c.requires in
    let l = c.loop-k in
    let t = c.loop-k-test.true in
    (p.0, l.invariant.2, (p.3.0, l.invariant.4, omega (arith, p.4)), omega (arith, p.4), p.4)

pub loop-k-smaller : goal.loop-k-smaller
loop-k-smaller c =
    let e = c.past_inner-passed.ensures.next_later in
    let t = c.loop-k-test.true in
    omega arith

pub loop-k-preserved : goal.loop-k-preserved
loop-k-preserved c =
    let a = c.args in
    let p = c.requires in
    let l = c.loop-k in
    let i = l.invariant in
    let e = c.past_inner-passed.ensures in
    let s = inner_passed a.ancestors.now a.descendants.now p.0 a.i l.zone l.k _ _ _ (omega (arith, i.3, i.2, p.1)) e.next_later e.next_placed
    c.node_from.ensures c.if-node_from-level.false i.1 e.held in (
      i.0,
      i.1,
      e.zone_placed,
      omega (arith, i.3, e.zone_later),
      e.next_placed.1,
      omega (arith, i.5, e.next_later),
      i.6,
      ap (served_group Ancestor l.out l.handed.count (node_at a.ancestors.now (a.i / 4))) (sym s) ∙ i.7,
    )

pub returns : goal.returns
returns c =
    let a = c.args in
    let p = c.requires in
    let l = c.loop-k in
    let i = l.invariant in
    let t = c.loop-k-test.false in
    let none = none_match a.descendants.now (node_at a.ancestors.now (a.i / 4)) Directly (a.from / 4) (l.k / 4) p.5 (omega (arith, p.6)) in
    left_end pair_words PAIR_WORDS _ _ i.6 (group_none _ none) i.7
