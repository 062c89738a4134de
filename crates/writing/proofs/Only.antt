-- Why it holds: The contract equates the answer and the output with definitions, and two things
-- that equal a third are equal.
-- What would break it: A contract that left a field of the answer or a byte of the output open
-- would be caught here.
use mathlib.Core.Path.{◌≡◌}
use Rattle.laws.proofs.Only.{only}
use Rattle.answers.proofs.RefusalLaws.{counted_only}
use Rattle.writing.proofs.write.write_book.Reads as write-book

pub write_book_only : (κs : _) (a : _) (r r' : _) (s s' : _) → write-book.Post κs a r s → write-book.Post κs a r' s'
    → (s.1.1.0.now ≡ s'.1.1.0.now) × (r ≡ r')
write_book_only κs a r r' s s' p q = (only p.output q.output, counted_only r r' (only p.answer q.answer))
