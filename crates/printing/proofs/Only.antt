-- Why it holds: The contract equates the answer's number with a definition, two things that equal a
-- third are equal, and each number is that of one answer. So no second answer satisfies it.
-- What would break it: A contract that left the answer open would be caught here. What is written
-- on standard output isn't part of the contract.
use mathlib.Core.Path.{◌≡◌}
use Rattle.laws.proofs.Only.{only}
use Rattle.answers.proofs.RefusalLaws.{answer_only}
use Rattle.printing.proofs.print.print_book.Reads as print-book

pub print_book_only : (κs : _) (a : _) (r r' : _) (s s' : _) → print-book.Post κs a r s → print-book.Post κs a r' s' → r ≡ r'
print_book_only κs a r r' s s' p q = answer_only r r' (only p q)
