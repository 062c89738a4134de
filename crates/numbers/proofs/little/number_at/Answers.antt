-- Function: `number_at` (src/little.rt).
-- Why it holds: For an index below the number of numbers, the four bytes that start at
-- `NUMBER_BYTES * index` are the number's. For any other index the definition gives 0.
-- What would break it: A byte one off would be caught at the last return, and an index too large at
-- a call's requirement.
use mathlib.Core.Path.{sym, ◌∙◌}
use native.Mathlib.Omega.{arith}
use Rattle.numbers.proofs.LittleLaws.{number_bytes, number_beyond}
use Rattle.numbers.proofs.little.number_at.Goals as goal

pub returns-then-number_count-index : goal.returns-then-number_count-index
returns-then-number_count-index c = sym (number_beyond _ _ (omega arith))

pub returns : goal.returns
returns c = c.number_from.ensures ∙ sym (number_bytes _ _ (omega arith))
