-- Why it holds: Each public contract is an equation with a definition, and two things that equal a
-- third are equal. So no second answer satisfies it.
-- What would break it: A contract that left a field of the answer or a word of the lists open would
-- be caught here.
use mathlib.Core.Path.{◌≡◌}
use Rattle.laws.proofs.Only.{only}
use Rattle.joins.proofs.copy.copy_lists.Reads as copy_lists

pub copy_lists_only : (κs : _) (a : _) (r r' : _) (s s' : _) → copy_lists.Post κs a r s → copy_lists.Post κs a r' s'
    → (r ≡ r') × (s.1.1.1.1.0.now ≡ s'.1.1.1.1.0.now) × (s.1.1.1.1.1.0.now ≡ s'.1.1.1.1.1.0.now)
copy_lists_only κs a r r' s s' p q = (only p.answer q.answer, only p.first_output q.first_output, only p.second_output q.second_output)
