-- Why it holds: The contract equates the part's words and its place with definitions, and two
-- things that equal a third are equal. So no second answer satisfies it.
-- What would break it: A contract that left open a word of the part, or its place, would be caught
-- here.
use mathlib.Core.Path.{◌≡◌}
use Rattle.laws.proofs.Only.{only}
use Rattle.repairs.proofs.part.faulty_part.Reads as faulty-part

pub faulty_part_only : (κs : _) (a : _) (r r' : _) (s s' : _) → faulty-part.Post κs a r s → faulty-part.Post κs a r' s'
    → (r.now ≡ r'.now) × (r.ref_ptr ≡ r'.ref_ptr)
faulty_part_only κs a r r' s s' p q = (only p.contents q.contents, only p.place q.place)
