-- Why it holds: Each contract equates the answer and the output with definitions, and two things
-- that equal a third are equal.
-- What would break it: A contract that left a field of the answer or a word of the output open
-- would be caught here.
use mathlib.Core.Path.{◌≡◌}
use Rattle.laws.proofs.Only.{only}
use Rattle.answers.proofs.RefusalLaws.{counted_only}
use Rattle.marks.proofs.Outcomes.{unnumbered_only}
use Rattle.marks.proofs.number.number.Reads as number
use Rattle.marks.proofs.pick.pick.Reads as pick
use Rattle.marks.proofs.unnumber.unnumber.Reads as unnumber
use Rattle.marks.proofs.unnumber.UnnumberedFromResultMarkedRefusal.from.Reads as unnumbered-from

pub number_only : (κs : _) (a : _) (r r' : _) (s s' : _) → number.Post κs a r s → number.Post κs a r' s'
    → (s.1.1.0.now ≡ s'.1.1.0.now) × (r ≡ r')
number_only κs a r r' s s' p q = (only p.output q.output, counted_only r r' (only p.answer q.answer))

pub pick_only : (κs : _) (a : _) (r r' : _) (s s' : _) → pick.Post κs a r s → pick.Post κs a r' s'
    → (s.1.1.0.now ≡ s'.1.1.0.now) × (r ≡ r')
pick_only κs a r r' s s' p q = (only p.output q.output, counted_only r r' (only p.answer q.answer))

pub unnumber_only : (κs : _) (a : _) (r r' : _) (s s' : _) → unnumber.Post κs a r s → unnumber.Post κs a r' s'
    → (s.1.0.now ≡ s'.1.0.now) × (r ≡ r')
unnumber_only κs a r r' s s' p q = (only p.output q.output, unnumbered_only r r' (only p.answer q.answer))

pub unnumbered_from_only : (κs : _) (a : _) (r r' : _) (s s' : _) → unnumbered-from.Post κs a r s → unnumbered-from.Post κs a r' s' → r ≡ r'
unnumbered_from_only κs a r r' s s' p q = only p q
