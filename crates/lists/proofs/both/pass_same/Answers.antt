-- Function: `pass_same` (src/both.rt).
-- Why it holds: Two nodes of one document that start together are identical where they end together
-- and have one level. The second list then goes on after its own.
-- What would break it: A word left out of the comparison would be caught at the last return.
use mathlib.Core.Path.{refl, ap}
use mathlib.Core.Logic.{inl}
use native.Mathlib.Omega.{arith}
use Rattle.nodes.specs.declared.node.Node.{Node}
use Rattle.lists.specs.Private.Walk.{node_from}
use Rattle.lists.proofs.Runs.{ahead_there, same_words, same_to}
use Rattle.lists.proofs.both.pass_same.Goals as goal

pub returns-then-a-b : goal.returns-then-a-b
returns-then-a-b c = inl (refl, λ q. omega arith)

pub bounds-first-i : goal.bounds-first-i
bounds-first-i c =
    let x = c.args in
    let p = c.requires in
    let t = ahead_there x.first.now x.a.at x.document x.a.start p.0 p.1 (omega arith) in
    omega arith

pub bounds-second-j : goal.bounds-second-j
bounds-second-j c =
    let x = c.args in
    let p = c.requires in
    let t = ahead_there x.second.now x.b.at x.document x.b.start p.2 p.3 (omega arith) in
    omega arith

pub returns-then-first-i : goal.returns-then-first-i
unfolding node_from
returns-then-first-i c = (omega arith, inl (λ q. let e = ap (λ (n : Node). n.end) q in omega arith))

pub bounds-first-i-2 : goal.bounds-first-i-2
bounds-first-i-2 c =
    let x = c.args in
    let p = c.requires in
    let t = ahead_there x.first.now x.a.at x.document x.a.start p.0 p.1 (omega arith) in
    omega arith

pub bounds-second-j-2 : goal.bounds-second-j-2
bounds-second-j-2 c =
    let x = c.args in
    let p = c.requires in
    let t = ahead_there x.second.now x.b.at x.document x.b.start p.2 p.3 (omega arith) in
    omega arith

pub returns-then-first-i-2 : goal.returns-then-first-i-2
unfolding node_from
returns-then-first-i-2 c = (omega arith, inl (λ q. let e = ap (λ (n : Node). n.level) q in omega arith))

pub reach-requires : goal.reach-requires
reach-requires c =
    let x = c.args in
    let p = c.requires in
    let t = ahead_there x.second.now x.b.at x.document x.b.start p.2 p.3 p.4 in
    ((omega arith, omega arith, p.2.2), omega arith)

pub returns : goal.returns
unfolding node_from
returns c =
    let x = c.args in
    let p = c.requires in
    let t = ahead_there x.first.now x.a.at x.document x.a.start p.0 p.1 (omega arith) in
    let u = ahead_there x.second.now x.b.at x.document x.b.start p.2 p.3 p.4 in
    same_to x.first.now x.second.now x.a x.b x.document c.reach.result (omega arith)
    (same_words (node_from x.first.now x.a.at) (node_from x.second.now x.b.at) (omega arith) (omega arith) (omega arith) (omega arith))
    c.reach.ensures
