-- Function: `still_open` (src/open.rt).
-- Why it holds: At each turn, taking the ended ancestors off those that are left gives what taking
-- them off all gives. An open head ends the loop; one that ended is passed.
-- Measure: `left`, the words of the stack still to look at.
-- What would break it: A test of another node than the head, or a count one off, would be caught at
-- the return or at the next turn.
use Prim.Native.Nat.{ℕ, ◌-◌, ◌/◌, ◌%◌, ◌<◌}
use mathlib.Core.Path.{◌≡◌, refl, sym, ap, ◌∙◌}
use mathlib.Core.Bool.{true, false}
use mathlib.Core.List.{List}
use native.Mathlib.Omega.{arith}
use native.Mathlib.Nat.{le_refl}
use Rattle.nodes.specs.declared.node.Node.{Node}
use Rattle.nodes.specs.Node.{openb}
use Rattle.nodes.specs.Words.{nodes, node_at}
use Rattle.lists.specs.Private.Walk.{unended}
use Rattle.pairs.specs.Private.Stack.{firsts, opened}
use Rattle.pairs.proofs.StackNodes.{head_open, head_shut, head_none}
use Rattle.pairs.proofs.open.still_open.Goals as goal

-- The top lies in the last four words in use.
module _ (ws : List ℕ) (u : ℕ) (n e : Node) (h : 0 < u) (m : u % 4 ≡ 0) (q : e ≡ node_at ws ((u - 4) / 4)) where
  at_top : e ≡ node_at ws (u / 4 - 1)
  at_top = q ∙ ap (node_at ws) (omega arith)

  top_open : openb n e ≡ true → opened u ws ≡ unended n (opened u ws)
  top_open o = head_open (u / 4) ws n e (omega arith) at_top o

  top_shut : openb n e ≡ false → unended n (opened (u - 4) ws) ≡ unended n (opened u ws)
  top_shut o = ap (λ k. unended n (firsts k (nodes ws))) (omega arith) ∙ head_shut (u / 4) ws n e (omega arith) at_top o

pub loop-left-init : goal.loop-left-init
loop-left-init c = (c.requires, le_refl _, refl)

pub returns-then-is_open : goal.returns-then-is_open
returns-then-is_open c =
    let a = c.args in
    let l = c.loop-left in record {
      fits = l.invariant.0;
      fewer = l.invariant.1;
      left = top_open a.stack.now _ a.node _ (omega arith) l.invariant.0.0 c.node_from.ensures
          (sym c.is_open.ensures ∙ c.if-is_open.true) ∙ l.invariant.2;
    }

pub loop-left-preserved : goal.loop-left-preserved
loop-left-preserved c =
    let a = c.args in
    let l = c.loop-left in (
      (omega arith, omega arith),
      omega arith,
      top_shut a.stack.now _ a.node _ (omega arith) l.invariant.0.0 c.node_from.ensures
          (sym c.is_open.ensures ∙ c.if-is_open.false) ∙ l.invariant.2,
    )

pub returns : goal.returns
returns c =
    let a = c.args in
    let l = c.loop-left in
    record { fits = l.invariant.0; fewer = l.invariant.1; left = head_none _ a.stack.now a.node (omega arith) ∙ l.invariant.2 }
