-- Function: `push` (src/walk.rt).
-- Why it holds: The end and the level stored right above an open node make the new one the head of
-- a chain one node longer.
-- What would break it: A word stored one place off, or a top that doesn't grow with it, would be
-- caught at the return.
use mathlib.Core.Path.{refl}
use native.Mathlib.Omega.{arith}
use Rattle.lists.proofs.StackLaws.{laid_put}
use Rattle.lists.proofs.walk.push.Goals as goal

pub returns : goal.returns
returns c =
    let a = c.args in
    record { answer = refl; stack = laid_put a.left a.stack.now _ a.node (omega arith) c.put_open.ensures }
