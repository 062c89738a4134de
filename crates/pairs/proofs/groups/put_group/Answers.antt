-- Function: `put_group` (src/groups.rt).
-- Why it holds: At each turn, serving what is left of the group gives what serving all of it gives.
-- What would break it: A pair stored one off, or a skipped follower, would be caught at the next
-- turn.
use Prim.Native.Nat.{◌+◌, zero-le}
use mathlib.Core.Path.{◌≡◌, refl, ap, ◌∙◌}
use native.Mathlib.Omega.{arith}
use Rattle.nodes.specs.Words.{nodes, count}
use Rattle.pairs.specs.Private.Sweep.{served_group}
use Rattle.pairs.proofs.Stretches.{turned, ended}
use Rattle.pairs.proofs.groups.put_group.Goals as goal

pub loop-k-init : goal.loop-k-init
loop-k-init c =
    let a = c.args in
    (zero-le, refl, ap (λ n. served_group a.order a.out.now n a.leader (nodes a.followers.now)) (omega arith))

pub put_pair-requires : goal.put_pair-requires
put_pair-requires c = omega arith

pub loop-k-preserved : goal.loop-k-preserved
loop-k-preserved c =
    let a = c.args in
    let l = c.loop-k in
    let t = turned a.order a.leader a.followers.now l.out _ a.written l.k _ (omega arith)
    c.node_at.ensures (omega arith) c.put_pair.ensures in
    (omega arith, omega arith, t ∙ l.invariant.2)

pub returns : goal.returns
returns c =
    let a = c.args in
    let l = c.loop-k in
    let e : count a.followers.now ≡ l.k = omega arith in
    rw e (ended a.order a.leader a.followers.now l.out (a.written + l.k) l.k (omega arith) ∙ l.invariant.2)
