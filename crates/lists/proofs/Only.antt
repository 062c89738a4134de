-- Why it holds: Each public contract is an equation with a definition, and two things that equal a
-- third are equal. So no second answer satisfies it.
-- What would break it: A contract that left a field of its verdict open would be caught here.
use mathlib.Core.Path.{◌≡◌}
use Rattle.laws.proofs.Only.{only}
use Rattle.answers.proofs.RefusalLaws.{verdict_only}
use Rattle.lists.proofs.bytes.check_bytes.Reads as check-bytes
use Rattle.lists.proofs.list.check_list.Reads as check-list
use Rattle.lists.proofs.two.check_two.Reads as check-two

pub check_list_only : (κs : _) (a : _) (r r' : _) (s s' : _) → check-list.Post κs a r s → check-list.Post κs a r' s' → r ≡ r'
check_list_only κs a r r' s s' p q = verdict_only r r' (only p q)

pub check_bytes_only : (κs : _) (a : _) (r r' : _) (s s' : _) → check-bytes.Post κs a r s → check-bytes.Post κs a r' s' → r ≡ r'
check_bytes_only κs a r r' s s' p q = verdict_only r r' (only p q)

pub check_two_only : (κs : _) (a : _) (r r' : _) (s s' : _) → check-two.Post κs a r s → check-two.Post κs a r' s' → r ≡ r'
check_two_only κs a r r' s s' p q = verdict_only r r' (only p q)
