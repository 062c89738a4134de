-- Function: `hand_stretch` (src/groups.rt).
-- Why it holds: The pairs that fit are counted first, and that many are written. So all of the
-- stretch is served, or the room is full.
-- What would break it: A count one off either way, or a slice that begins or ends one node off,
-- would be caught at the return.
use Prim.Native.Nat.{◌+◌, ◌-◌, ◌*◌}
use native.Mathlib.Omega.{arith}
use Rattle.pairs.proofs.Stretches.{counted_in}
use Rattle.pairs.proofs.groups.hand_stretch.Goals as goal

pub returns : goal.returns
returns c =
    let a = c.args in
    let p = c.requires in
    let n = c.min-fit.result in
    counted_in a.order a.leader a.followers.now a.from a.to (a.from + 4 * n - a.from) n p.1 p.2 p.3 (omega arith) (omega arith) a.out.now _ a.written
    c.put_group.ensures (omega arith)
