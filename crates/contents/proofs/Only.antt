-- Why it holds: Each public contract is an equation with a definition, and two things that equal a
-- third are equal. So no second answer satisfies it.
-- What would break it: A contract that left a field of its answer open would be caught here.
use mathlib.Core.Path.{◌≡◌}
use Rattle.laws.proofs.Only.{only}
use Rattle.answers.proofs.RefusalLaws.{answer_only}
use Rattle.contents.proofs.check.check_contents.Reads as check-contents
use Rattle.contents.proofs.entry.contents_end.Reads as contents-end
use Rattle.contents.proofs.entry.entry_at.Reads as entry_at
use Rattle.contents.proofs.entry.entry_count.Reads as entry-count
use Rattle.contents.proofs.step.pass_entry.Reads as pass-entry
use Rattle.contents.proofs.step.start_of.Reads as start_of_lem
use Rattle.contents.proofs.step.check_end.Reads as check-end

pub contents_end_only : (κs : _) (a : _) (r r' : _) (s s' : _) → contents-end.Post κs a r s → contents-end.Post κs a r' s' → r ≡ r'
contents_end_only κs a r r' s s' p q = only p q

pub entry_count_only : (κs : _) (a : _) (r r' : _) (s s' : _) → entry-count.Post κs a r s → entry-count.Post κs a r' s' → r ≡ r'
entry_count_only κs a r r' s s' p q = only p q

pub entry_at_only : (κs : _) (a : _) (r r' : _) (s s' : _) → entry_at.Post κs a r s → entry_at.Post κs a r' s' → r ≡ r'
entry_at_only κs a r r' s s' p q = only p q

pub start_of_only : (κs : _) (a : _) (r r' : _) (s s' : _) → start_of_lem.Post κs a r s → start_of_lem.Post κs a r' s' → r ≡ r'
start_of_only κs a r r' s s' p q = only p q

pub pass_entry_only : (κs : _) (a : _) (r r' : _) (s s' : _) → pass-entry.Post κs a r s → pass-entry.Post κs a r' s' → r ≡ r'
pass_entry_only κs a r r' s s' p q = only p q

pub check_end_only : (κs : _) (a : _) (r r' : _) (s s' : _) → check-end.Post κs a r s → check-end.Post κs a r' s' → r ≡ r'
check_end_only κs a r r' s s' p q = answer_only r r' (only p q)

pub check_contents_only : (κs : _) (a : _) (r r' : _) (s s' : _) → check-contents.Post κs a r s → check-contents.Post κs a r' s' → r ≡ r'
check_contents_only κs a r r' s s' p q = answer_only r r' (only p q)
