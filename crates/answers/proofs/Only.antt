-- Why it holds: Each public contract is an equation with a definition, and two things that equal a
-- third are equal. So no second answer satisfies it.
-- What would break it: A contract that left a field of its answer open would be caught here.
use mathlib.Core.Path.{◌≡◌}
use Rattle.laws.proofs.Only.{only}
use Rattle.answers.proofs.answer.name_of.Reads as name_of
use Rattle.answers.proofs.refusal.FaultFromRefusal.from.Reads as fault-from-refusal
use Rattle.answers.proofs.refusal.U32FromRefusal.from.Reads as number-from-refusal
use Rattle.answers.proofs.verdict.CountedFromResultUsizeFault.from.Reads as counted-from-wrote
use Rattle.answers.proofs.verdict.VerdictFromFault.from.Reads as verdict-from-fault
use Rattle.answers.proofs.verdict.VerdictFromResultUnitFault.from.Reads as verdict-from-checked

pub name_of_only : (κs : _) (a : _) (r r' : _) (s s' : _) → name_of.Post κs a r s → name_of.Post κs a r' s' → r ≡ r'
name_of_only κs a r r' s s' p q = only p q

pub number_from_refusal_only : (κs : _) (a : _) (r r' : _) (s s' : _) → number-from-refusal.Post κs a r s → number-from-refusal.Post κs a r' s' → r ≡ r'
number_from_refusal_only κs a r r' s s' p q = only p q

pub fault_from_refusal_only : (κs : _) (a : _) (r r' : _) (s s' : _) → fault-from-refusal.Post κs a r s → fault-from-refusal.Post κs a r' s' → r ≡ r'
fault_from_refusal_only κs a r r' s s' p q = only p q

pub verdict_from_fault_only : (κs : _) (a : _) (r r' : _) (s s' : _) → verdict-from-fault.Post κs a r s → verdict-from-fault.Post κs a r' s' → r ≡ r'
verdict_from_fault_only κs a r r' s s' p q = only p q

pub verdict_from_checked_only : (κs : _) (a : _) (r r' : _) (s s' : _) → verdict-from-checked.Post κs a r s → verdict-from-checked.Post κs a r' s' → r ≡ r'
verdict_from_checked_only κs a r r' s s' p q = only p q

pub counted_from_wrote_only : (κs : _) (a : _) (r r' : _) (s s' : _) → counted-from-wrote.Post κs a r s → counted-from-wrote.Post κs a r' s' → r ≡ r'
counted_from_wrote_only κs a r r' s s' p q = only p q
