-- Function: `elder_of` (src/climb.rt).
-- Why it holds: At each turn `elder` was passed on the way up.
-- Measure: `elder`, which is less at each turn because a parent comes before its child.
-- What would break it: A way that starts too high or skips a parent would be caught at the loop.
-- One that stops at a node that ended before this one would be caught at a return.
use Prim.Native.Nat.{ℕ, ◌*◌, ◌-◌, ◌≤◌, ◌<◌}
use mathlib.Core.Path.{◌≡◌, refl, sym, ap, subst, ◌∙◌}
use mathlib.Core.List.{List}
use native.Mathlib.Omega.{arith}
use lib.ListN.{length, get_or}
use Rattle.std.specs.Prelude.{Some, None}
use Rattle.nodes.specs.declared.node.Node.{Node}
use Rattle.answers.specs.Answer.{TAKEN}
use Rattle.nodes.specs.Words.{nodes, count, node_at}
use Rattle.nodes.proofs.WordLaws.{length_nodes}
use Rattle.lists.specs.Check.{check_words}
use Rattle.forest.specs.Private.Climb.{index_in, Linking, Ended, Elder}
use Rattle.forest.specs.Links.{NONE, node_in, parent_of}
use Rattle.forest.proofs.Climbing.{Passed, pass_before, pass_parent, elder_passed}
use Rattle.forest.proofs.Containing.{AcceptedList, accepted_list, node_in_lem}
use Rattle.forest.proofs.LinkLaws.{index_read, index_none, parent_word}
use Rattle.forest.proofs.Parents.{parent_before}
use Rattle.forest.proofs.climb.elder_of.Goals as goal

module _ (ws : List ℕ) (i : ℕ) (h : (check_words ws).answer ≡ TAKEN) (l : i < count ws) where
  abbrev ok : AcceptedList (nodes ws)
  ok = accepted_list ws h

  here : i < length (nodes ws)
  here = omega (arith, length_nodes ws)

  starts : Ended (nodes ws) i → Passed (nodes ws) i (i - 1)
  starts e = pass_before (nodes ws) ok i here e

  module _ (e p : ℕ) (c : Passed (nodes ws) i e) (q : p ≡ parent_of (nodes ws) e) where
    rises : (p ≡ NONE → ⊥) → p < e
    rises n = omega (arith, q, parent_before (nodes ws) ok e (omega (arith, c.before, here)) (λ z. n (q ∙ z)))

    module _ (node : Node) (s : node ≡ node_at ws i) (end : ℕ) (t : end ≡ (node_at ws p).end) where
      start_in : node.start ≡ (node_in (nodes ws) i).start
      start_in = ap (λ n. n.start) (node_in_lem ws i node s)

      end_in : end ≡ (node_in (nodes ws) (parent_of (nodes ws) e)).end
      end_in = t ∙ ap (λ n. n.end) (node_in_lem ws p _ refl) ∙ ap (λ k. (node_in (nodes ws) k).end) q

      found : node.start ≤ end → Elder (nodes ws) i e
      found b = elder_passed (nodes ws) ok i here e c (λ z. omega (arith, start_in, end_in, b))

      passes : (p ≡ NONE → ⊥) → end < node.start → Passed (nodes ws) i p
      passes n b =
          subst (Passed (nodes ws) i) (sym q)
          (pass_parent (nodes ws) ok i here e c (λ z. n (q ∙ z)) (omega (arith, start_in, end_in, b)))

    ends : p ≡ NONE → Elder (nodes ws) i e
    ends n = elder_passed (nodes ws) ok i here e c (λ z. absurd (z (sym q ∙ n)))

  -- The link read names the parent, if there is one.
  module _ (links : List ℕ) (k : Linking (nodes ws) i links) (e : ℕ) (v : Passed (nodes ws) i e) where
    read : get_or links (3 * e) 0 ≡ parent_of (nodes ws) e
    read = parent_word (nodes ws) i e links v.before k

    upwards : (p : ℕ) → Some p ≡ index_in (get_or links (3 * e) 0) → (p ≡ parent_of (nodes ws) e) × (p ≡ NONE → ⊥)
    upwards p s = let w = index_read _ p s in (w.0 ∙ read, w.1)

    outermost : None ≡ index_in (get_or links (3 * e) 0) → NONE ≡ parent_of (nodes ws) e
    outermost s = sym (index_none _ s) ∙ read

pub overflow_sub-elder : goal.overflow_sub-elder
overflow_sub-elder c =
    let e = c.requires.4 in
    omega (arith, e.later)

pub parent_at-requires : goal.parent_at-requires
parent_at-requires c = let p = c.requires in omega (arith, p.2, c.loop-parent.invariant.before)

pub loop-parent-init : goal.loop-parent-init
loop-parent-init c =
    let a = c.args in
    let p = c.requires in
    starts a.list.now a.index p.0 p.1 p.4

pub overflow_cast-parent : goal.overflow_cast-parent
overflow_cast-parent c =
    let v = c.loop-parent.invariant in
    let a = c.args in
    let p = c.requires in
    let u = upwards a.list.now a.index p.0 p.1 a.links.now p.3 _ v _ c.in-Some.ensures in
    omega (arith, v.before, rises a.list.now a.index p.0 p.1 _ _ v u.0 u.1)

pub end_at-requires : goal.end_at-requires
end_at-requires c =
    let v = c.loop-parent.invariant in
    let a = c.args in
    let p = c.requires in
    let u = upwards a.list.now a.index p.0 p.1 a.links.now p.3 _ v _ c.in-Some.ensures in
    omega (arith, p.1, v.before, rises a.list.now a.index p.0 p.1 _ _ v u.0 u.1)

pub returns-then-start-end_at : goal.returns-then-start-end_at
returns-then-start-end_at c =
    let v = c.loop-parent.invariant in
    let a = c.args in
    let p = c.requires in
    let u = upwards a.list.now a.index p.0 p.1 a.links.now p.3 _ v _ c.in-Some.ensures in
    found a.list.now a.index p.0 p.1 _ _ v u.0 _ c.node_at-start.ensures _ c.end_at.ensures c.if-start-end_at.true

pub overflow_cast-elder : goal.overflow_cast-elder
overflow_cast-elder c =
    let v = c.loop-parent.invariant in
    let a = c.args in
    let p = c.requires in
    let u = upwards a.list.now a.index p.0 p.1 a.links.now p.3 _ v _ c.in-Some.ensures in
    omega (arith, v.before, rises a.list.now a.index p.0 p.1 _ _ v u.0 u.1)

pub loop-parent-smaller : goal.loop-parent-smaller
loop-parent-smaller c =
    let v = c.loop-parent.invariant in
    let a = c.args in
    let p = c.requires in
    let u = upwards a.list.now a.index p.0 p.1 a.links.now p.3 _ v _ c.in-Some.ensures in
    rises a.list.now a.index p.0 p.1 _ _ v u.0 u.1

pub loop-parent-preserved : goal.loop-parent-preserved
loop-parent-preserved c =
    let v = c.loop-parent.invariant in
    let a = c.args in
    let p = c.requires in
    let u = upwards a.list.now a.index p.0 p.1 a.links.now p.3 _ v _ c.in-Some.ensures in
    passes a.list.now a.index p.0 p.1 _ _ v u.0 _ c.node_at-start.ensures _ c.end_at.ensures u.1 c.if-start-end_at.false

pub returns : goal.returns
returns c =
    let v = c.loop-parent.invariant in
    let a = c.args in
    let p = c.requires in
    ends a.list.now a.index p.0 p.1 _ _ v (outermost a.list.now a.index p.0 p.1 a.links.now p.3 _ v c.in_default.ensures) refl
