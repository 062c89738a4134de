-- Why it holds: Each contract equates its answer, in numbers where it may be a refusal, and its
-- output with definitions. Two things that equal a third are equal, and the numbers tell all of the
-- answer.
-- What would break it: A contract that left a field of the answer or a word of the output open
-- would be caught here.
use mathlib.Core.Path.{◌≡◌}
use Rattle.answers.proofs.RefusalLaws.{counted_only}
use Rattle.laws.proofs.Only.{only}
use Rattle.sheets.proofs.sheet.write_sheet.Reads as write-sheet

pub write_sheet_only : (κs : _) (a : _) (r r' : _) (s s' : _) → write-sheet.Post κs a r s → write-sheet.Post κs a r' s'
    → (s.1.1.1.0.now ≡ s'.1.1.1.0.now) × (r ≡ r')
write_sheet_only κs a r r' s s' p q = (only p.output q.output, counted_only r r' (only p.answer q.answer))
