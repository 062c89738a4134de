-- Function: `hand_ancestor` (src/ancestors.rt).
-- Why it holds: The first descendant is in the run, and what is left of the run from a start on is
-- handed out.
-- What would break it: A run cut short, or a start that is passed, would be caught at the return.
use Prim.Native.Nat.{◌/◌}
use mathlib.Core.Path.{◌≡◌, sym, subst}
use mathlib.Core.Bool.{true}
use Rattle.nodes.specs.Words.{node_at}
use Rattle.pairs.specs.Private.Sweep.{Running, runningb}
use Rattle.pairs.proofs.Zones.{end_placed, ahead_placed, serve_run}
use Rattle.pairs.proofs.ancestors.hand_ancestor.Goals as goal

pub run_end-end-requires : goal.run_end-end-requires
run_end-end-requires c =
    let a = c.args in
    let p = c.requires in (
      p.3.1,
      p.4,
      subst (λ n. Running a.descendants.now n (a.from / 4)) (sym c.node_from.ensures) p.5,
      subst (λ n. runningb a.descendants.now n (a.from / 4) ≡ true) (sym c.node_from.ensures) p.6,
    )

pub first_from-ahead-requires : goal.first_from-ahead-requires
first_from-ahead-requires c =
    let a = c.args in
    let p = c.requires in
    let e = c.run_end-end.ensures in
    let t = end_placed a.descendants.now (node_at a.ancestors.now (a.i / 4)) a.from _ 0 0 _ p.3 p.5 c.node_from.ensures e.aligned e.index in
    (p.3, t.0, t.1)

pub hand_run-handed-requires : goal.hand_run-handed-requires
hand_run-handed-requires c =
    let a = c.args in
    let p = c.requires in
    let e = c.run_end-end.ensures in
    let f = c.first_from-ahead.ensures in
    let t = end_placed a.descendants.now (node_at a.ancestors.now (a.i / 4)) a.from _ 0 0 _ p.3 p.5 c.node_from.ensures e.aligned e.index in
    let s = ahead_placed a.descendants.now (node_at a.ancestors.now (a.i / 4)) a.from _ _ a.past _ p.3 p.5 c.node_from.ensures e.aligned e.index f.aligned f.index in
    (p.0, p.1, p.2, s.0, t.0, s.1, s.2)

pub returns : goal.returns
returns c =
    let a = c.args in
    let p = c.requires in
    let e = c.run_end-end.ensures in
    let f = c.first_from-ahead.ensures in
    let s = serve_run a.descendants.now (node_at a.ancestors.now (a.i / 4)) a.from _ _ a.past _ p.3 p.5 c.node_from.ensures e.aligned e.index a.relation f.aligned f.index
    a.out.now a.written c.hand_run-handed.ensures in
    record { guess = e.aligned; handed = s }
