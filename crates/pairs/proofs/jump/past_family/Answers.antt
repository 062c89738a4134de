-- Function: `past_family` (src/jump.rt).
-- Why it holds: The nodes after the zone that lie inside it are its run in its own list. A named
-- place is taken only where the zone is open at the node before it, and strides end where the run
-- ends.
-- What would break it: A place named by the links that is taken without a test would be caught at
-- its return.
use Prim.Native.Nat.{◌+◌, ◌-◌, ◌%◌}
use mathlib.Core.Path.{◌≡◌, sym, ◌∙◌}
use native.Mathlib.Omega.{arith}
use Rattle.pairs.proofs.Jumps.{own_run, jump_one, jump_run}
use Rattle.pairs.proofs.Running.{further_next}
use Rattle.pairs.proofs.jump.past_family.Goals as goal

pub past_run-requires : goal.past_run-requires
past_run-requires c =
    let a = c.args in
    let p = c.requires in
    (omega (arith, p.1.1), own_run a.ancestors.now p.0 a.i _ p.1 p.2 c.node_from-zone.ensures)

pub returns-in_default : goal.returns-in_default
returns-in_default c =
    let a = c.args in
    let p = c.requires in
    let e = c.past_run.ensures in
    let at = e.index in
    jump_run a.ancestors.now p.0 a.i _ p.1 p.2 c.node_from-zone.ensures _ e.aligned (omega (arith, e.aligned)) (omega arith)

pub returns-then-named-next : goal.returns-then-named-next
returns-then-named-next c =
    let a = c.args in
    let p = c.requires in
    jump_one a.ancestors.now a.i p.1 p.2

pub returns-then-is_running : goal.returns-then-is_running
returns-then-is_running c =
    let a = c.args in
    let p = c.requires in
    let n = c.node_from-zone.ensures in
    let named = c.in-Some.named in
    let m : named % 4 ≡ 0 = c.in-Some.ensures in
    let f = further_next a.ancestors.now _ (a.i + 4) (named - 4) named (omega (arith, p.1.1)) (omega arith) (omega arith) (omega arith)
    (own_run a.ancestors.now p.0 a.i _ p.1 p.2 n) (sym c.is_running.ensures ∙ c.if-is_running.true) in
    let same = f.3 in
    jump_run a.ancestors.now p.0 a.i _ p.1 p.2 n _ f.0 f.1 (omega arith)

pub returns : goal.returns
returns c =
    let a = c.args in
    let p = c.requires in
    jump_one a.ancestors.now a.i p.1 p.2
