-- Function: `hand_descendant` (src/descendants.rt).
-- Why it holds: What matches the descendant is a stretch of the stack that ends at its top. What is
-- left of it from a start on is such a stretch as well.
-- What would break it: A stretch that leaves out the innermost ancestor, or takes in one that
-- doesn't match, would be caught at the return.
use mathlib.Core.Path.{sym, subst}
use Prim.Native.Nat.{◌/◌}
use native.Mathlib.Omega.{arith}
use Rattle.nodes.specs.Words.{node_at}
use Rattle.lists.specs.Private.Walk.{Upon}
use Rattle.pairs.specs.Private.Stack.{opened}
use Rattle.pairs.proofs.Stretches.{ahead_in}
use Rattle.pairs.proofs.StackMatches.{serve_ahead}
use Rattle.pairs.proofs.descendants.hand_descendant.Goals as goal

pub first_match-from-requires : goal.first_match-from-requires
first_match-from-requires c =
    let a = c.args in
    let p = c.requires in
    ((omega arith, omega arith, omega arith), p.3, subst (λ d. Upon d (opened a.used a.stack.now)) (sym c.node_from.ensures) p.4)

pub hand_group-requires : goal.hand_group-requires
hand_group-requires c =
    let a = c.args in
    let p = c.requires in
    let m = c.first_match-from.ensures in
    let f = c.first_from-ahead.ensures in
    let l = ahead_in a.stack.now _ a.used _ a.past f.index m.within p.2.0 f.aligned in
    (p.0, p.1, (omega arith, f.aligned, omega arith), (omega arith, omega arith, omega arith))

pub returns : goal.returns
returns c =
    let a = c.args in
    let m = c.first_match-from.ensures in
    let f = c.first_from-ahead.ensures in
    let n = c.node_from.ensures in
    serve_ahead a.stack.now _ a.used _ a.past f.index a.relation (node_at a.descendants.now (a.at / 4)) _ n m.matches a.out.now
    a.written c.hand_group.ensures
