-- Function: `pass_nodes` (src/walk.rt).
-- Why it holds: Before each turn, the check of the nodes from the index on gives the whole check's
-- answer, whatever nodes are handed out. Each turn passes the next one.
-- What would break it: A node read twice or passed over would be caught at the next turn, and a
-- node left over at the last return.
use mathlib.Core.Path.{sym, ap, ◌∙◌}
use Prim.Native.Nat.{zero-le}
use native.Mathlib.Omega.{arith}
use lib.ListN.{drop_of_length-le}
use Rattle.answers.specs.Refusal.{verdict_in}
use Rattle.lists.specs.declared.walk.ListPlace.{ListPlace}
use Rattle.lists.specs.Step.{verdict_of as step_verdict}
use Rattle.lists.proofs.Walking.{walk_as, walk_start, walk_on, walk_stop, walk_end, held_start, held_on}
use Rattle.lists.proofs.walk.pass_nodes.Goals as goal

pub loop-index-init : goal.loop-index-init
loop-index-init g c =
    let p = c.first_place-place.ensures in (
      zero-le,
      ap (λ (p : ListPlace). p.index) p,
      held_start _ _ p c.put_bottom.ensures,
      λ ns long hands. walk_start ns _ _ p c.put_bottom.ensures,
    )

pub pass_node-step-requires : goal.pass_node-step-requires
pass_node-step-requires g c = let few = c.requires.0 in (omega arith, c.loop-index.invariant.2)

pub returns-in_default : goal.returns-in_default
returns-in_default g c =
    let l = c.loop-index in
    let q = c.in_default.is in
    λ ns long hands.
    let w = walk_as (hands l.index _ (omega arith) c.node.ensures) (l.invariant.3 ns long hands) in
    ap verdict_in q ∙ sym (ap step_verdict q) ∙ walk_stop w _ _ c.pass_node-step.ensures _ q

pub loop-index-preserved : goal.loop-index-preserved
loop-index-preserved g c =
    let l = c.loop-index in
    let q = c.in-Ok.is in
    let h = held_on l.place l.stack _ _ _ l.invariant.2 c.pass_node-step.ensures _ q in
    let i = h.0 in (
      omega arith,
      omega arith,
      h.1,
      λ ns long hands.
          (walk_on (walk_as (hands l.index _ (omega arith) c.node.ensures) (l.invariant.3 ns long hands)) _ _ c.pass_node-step.ensures _ q).1,
    )

pub returns : goal.returns
returns g c =
    let l = c.loop-index in
    λ ns long hands. walk_end (walk_as (drop_of_length-le ns {i = l.index} (omega arith)) (l.invariant.3 ns long hands))
