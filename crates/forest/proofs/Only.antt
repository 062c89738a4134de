-- Why it holds: The call's contract equates its answer and its output with definitions, and two
-- things that equal a third are equal.
-- What would break it: A contract that left a field of the answer or a word of the output open
-- would be caught here.
use mathlib.Core.Path.{◌≡◌}
use Rattle.laws.proofs.Only.{only}
use Rattle.answers.proofs.RefusalLaws.{counted_only}
use Rattle.forest.proofs.forest.link_list.Reads as link-list

pub link_list_only : (κs : _) (a : _) (r r' : _) (s s' : _) → link-list.Post κs a r s → link-list.Post κs a r' s'
    → (s.1.0.now ≡ s'.1.0.now) × (r ≡ r')
link_list_only κs a r r' s s' p q = (only p.output q.output, counted_only r r' (only p.answer q.answer))
