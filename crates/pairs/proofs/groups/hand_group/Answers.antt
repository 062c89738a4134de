-- Function: `hand_group` (src/groups.rt).
-- Why it holds: Four returns cover every group: an empty one, one without room, one of a single
-- pair, and one that goes on.
-- What would break it: A pair of the wrong nodes, or one that is counted and not written, would be
-- caught at its return.
use mathlib.Core.Path.{◌∙◌}
use Prim.Native.Nat.{◌+◌}
use native.Mathlib.Omega.{arith}
use Rattle.pairs.proofs.Stretches.{stored, continued, cut, none}
use Rattle.pairs.proofs.groups.hand_group.Goals as goal

pub returns-then-to-from : goal.returns-then-to-from
returns-then-to-from c =
    let a = c.args in
    let p = c.requires in
    none a.order _ a.followers.now a.from a.to p.2 p.3 _ _ (omega arith)

pub returns-then-out-written : goal.returns-then-out-written
returns-then-out-written c =
    let a = c.args in
    let p = c.requires in
    cut a.order _ a.followers.now a.from a.to p.2 p.3 _ _ (omega arith) (omega arith)

pub returns-then-to-from-eq-NODE_WORDS : goal.returns-then-to-from-eq-NODE_WORDS
returns-then-to-from-eq-NODE_WORDS c =
    let a = c.args in
    let p = c.requires in
    let x = c.node_from.ensures in
    let y = c.node_from-2.ensures in
    none a.order _ a.followers.now (a.from + 4) a.to (omega arith, omega arith, omega arith) p.3 _ _ (omega arith)
    ∙ stored a.order _ a.followers.now a.from a.to p.2 p.3 _ _ a.written _ _ (omega arith) x y (omega arith) c.put_pair.ensures

pub returns : goal.returns
returns c =
    let a = c.args in
    let p = c.requires in
    let x = c.node_from.ensures in
    let y = c.node_from-2.ensures in
    continued a.order _ a.followers.now a.from a.to p.2 p.3 _ _ _ a.written _ _ _ c.hand_stretch.ensures c.node_from-3.ensures
    (omega arith) x y (omega arith) c.put_pair.ensures
