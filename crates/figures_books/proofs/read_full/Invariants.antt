-- Function: `read_full` (src/main.rt).
-- Why it holds: The buffer keeps its length, and a read returns no more bytes than it has room for.
-- So those read are never more than the buffer has, and a turn that reads any leaves less room.
-- Measure: the bytes that there is still room for.
-- What would break it: A count from a read that took more than the rest of the buffer would be
-- caught at the invariant.
use Rattle.std.proofs.Common.{length, ◌-◌, ◌≡◌, ◌≤◌}
use Rattle.figures_books.proofs.read_full.Given as goal

abbrev pub invariant-loop-done : goal.invariant-loop-done
invariant-loop-done g l = (length l.buffer ≡ length l.initial.buffer) × (l.done ≤ length l.initial.buffer)

abbrev pub decreases-loop-done : goal.decreases-loop-done
decreases-loop-done g l = length l.initial.buffer - l.done
