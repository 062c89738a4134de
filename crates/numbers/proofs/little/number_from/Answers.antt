-- Function: `number_from` (src/little.rt).
-- Why it holds: The four bytes are the definition's, and they weigh the same there.
-- What would break it: A byte one off, or with another weight, would be caught at the return.
use Rattle.std.proofs.Common.{arith}
use Rattle.numbers.specs.Little.{little}
use Rattle.numbers.proofs.little.number_from.Goals as goal

pub returns : goal.returns
unfolding little
returns c = let worth = c.from_le_bytes.ensures in omega arith
