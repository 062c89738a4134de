-- Function: `row_at` (src/row.rt).
-- Why it holds: The five words at five times the index are the row's.
-- What would break it: A word one off would be caught at the return.
use mathlib.Core.Path.{sym}
use native.Mathlib.Omega.{arith}
use Rattle.marks.proofs.RowLaws.{row_words_lem}
use Rattle.marks.proofs.row.row_at.Goals as goal

pub returns : goal.returns
returns c = sym (row_words_lem _ _ (omega arith))
