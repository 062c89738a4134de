-- Function: `contents_end` (src/entry.rt).
-- Why it holds: The bytes of the first number and of three numbers for each list are the
-- definition's own. No number of lists makes them overflow.
-- What would break it: A place one number off would be caught at the return.
use mathlib.Core.Path.{◌≡◌, refl}
use Prim.Native.Nat.{ℕ, ◌+◌, ◌*◌}
use Rattle.contents.specs.Contents.{contents_end}
use Rattle.contents.proofs.entry.contents_end.Goals as goal

bytes : (lists : ℕ) → 4 * (1 + 3 * lists) ≡ contents_end lists
unfolding contents_end
bytes lists = refl

pub returns : goal.returns
returns c = bytes _
