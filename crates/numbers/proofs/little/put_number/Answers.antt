-- Function: `put_number` (src/little.rt).
-- Why it holds: For an index below the number of numbers, four bytes become the number's, as
-- `put_number` says. They begin at `NUMBER_BYTES * index`. For any other index neither writes
-- anything.
-- What would break it: A byte written one off would be caught at the last return, and an index too
-- large at the part that is written.
use mathlib.Core.Path.{◌≡◌}
use mathlib.Core.List.{List}
use Prim.Native.Nat.{ℕ, ◌≤◌}
use native.Mathlib.Omega.{arith}
use borrow.Author.Tests.{le-ltb}
use Rattle.numbers.specs.Little.{number_count, put_number, bytes_of}
use Rattle.numbers.proofs.LittleLaws.{part_put}
use Rattle.numbers.proofs.little.put_number.Goals as goal

none : (bs : List ℕ) (i n : ℕ) → number_count bs ≤ i → bs ≡ put_number bs i n
unfolding put_number
none bs i n h = rw (le-ltb _ _ h)

pub returns-then-number_count-index : goal.returns-then-number_count-index
returns-then-number_count-index c = none _ _ _ (omega arith)

pub returns : goal.returns
unfolding bytes_of
returns c = part_put _ _ _ _ _ (omega arith) (omega arith) (rw (c.copy_from_slice.ensures.after, c.to_le_bytes.ensures))
