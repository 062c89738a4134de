-- Why it holds: Each public contract is an equation with a definition, and two things that equal a
-- third are equal. So no second answer satisfies it.
-- What would break it: A contract that left the value of a reading open would be caught here.
use mathlib.Core.Path.{◌≡◌}
use Rattle.laws.proofs.Only.{only}
use Rattle.readings.proofs.reading.decode.Reads as decode
use Rattle.readings.proofs.reading.in_percent.Reads as in-percent

pub decode_only : (κs : _) (a : _) (r r' : _) (s s' : _) → decode.Post κs a r s → decode.Post κs a r' s' → r ≡ r'
decode_only κs a r r' s s' p q = only p q

pub in_percent_only : (κs : _) (a : _) (r r' : _) (s s' : _) → in-percent.Post κs a r s → in-percent.Post κs a r' s' → r ≡ r'
in_percent_only κs a r r' s s' p q = only p q
