-- Why it holds: Each public contract is an equation with a definition, and two things that equal a
-- third are equal. So no second answer satisfies it.
-- What would break it: A contract that left open a byte, a word or the place of a part would be
-- caught here.
use mathlib.Core.Path.{◌≡◌}
use Rattle.laws.proofs.Only.{only}
use Rattle.numbers.proofs.little.node_in.Reads as Node-in
use Rattle.numbers.proofs.little.number_at.Reads as number_at
use Rattle.numbers.proofs.little.put_number.Reads as put-number
use Rattle.numbers.proofs.part.copy_numbers.Reads as copy-numbers
use Rattle.numbers.proofs.part.part_of.Reads as part_of

pub number_at_only : (κs : _) (a : _) (r r' : _) (s s' : _) → number_at.Post κs a r s → number_at.Post κs a r' s' → r ≡ r'
number_at_only κs a r r' s s' p q = only p q

pub put_number_only : (κs : _) (a : _) (r r' : _) (s s' : _) → put-number.Post κs a r s → put-number.Post κs a r' s' → s.0.now ≡ s'.0.now
put_number_only κs a r r' s s' p q = only p q

pub node_in_only : (κs : _) (a : _) (r r' : _) (s s' : _) → Node-in.Post κs a r s → Node-in.Post κs a r' s' → r ≡ r'
node_in_only κs a r r' s s' p q = only p q

pub part_of_only : (κs : _) (a : _) (r r' : _) (s s' : _) → part_of.Post κs a r s → part_of.Post κs a r' s'
    → (r.now ≡ r'.now) × (r.ref_ptr ≡ r'.ref_ptr)
part_of_only κs a r r' s s' p q = (only p.contents q.contents, only p.place q.place)

pub copy_numbers_only : (κs : _) (a : _) (r r' : _) (s s' : _) → copy-numbers.Post κs a r s → copy-numbers.Post κs a r' s'
    → s.1.0.now ≡ s'.1.0.now
copy_numbers_only κs a r r' s s' p q = only p q
