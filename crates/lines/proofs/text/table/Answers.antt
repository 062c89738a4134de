-- Function: `table` (src/text.rt).
-- Why it holds: A test of all entries is computed.
-- What would break it: A wrong digit in the table would be caught at the return.
use mathlib.Core.Path.{refl}
use Rattle.lines.proofs.TwoDigits.{tabled}
use Rattle.lines.proofs.text.table.Goals as goal

pub returns : goal.returns
returns c = tabled _ refl
