-- Why it holds: The public contract is an equation with a definition, and two things that equal a
-- third are equal. So no second answer satisfies it.
-- What would break it: A contract that left the low or the high open would be caught here.
use mathlib.Core.Path.{◌≡◌}
use Rattle.laws.proofs.Only.{only}
use Rattle.ranges.proofs.Cases.{range_only}
use Rattle.ranges.proofs.range.zone_range.Reads as zone-range

pub zone_range_only : (κs : _) (a : _) (r r' : _) (s s' : _) → zone-range.Post κs a r s → zone-range.Post κs a r' s' → r ≡ r'
zone_range_only κs a r r' s s' p q = range_only r r' (only p q)
