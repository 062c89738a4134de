-- Why it holds: Each public contract is an equation with a definition, and two things that equal a
-- third are equal. So no second answer satisfies it.
-- What would break it: A contract that left a field of the answer open would be caught here.
use mathlib.Core.Path.{◌≡◌}
use Rattle.laws.proofs.Only.{only}
use Rattle.tickets.proofs.leader.is_served.Reads as is-served
use Rattle.tickets.proofs.leader.past_from.Reads as past-from
use Rattle.tickets.proofs.leader.served_count.Reads as served-count
use Rattle.tickets.proofs.ticket.fresh.Reads as fresh

pub fresh_only : (κs : _) (a : _) (r r' : _) (s s' : _) → fresh.Post κs a r s → fresh.Post κs a r' s' → r ≡ r'
fresh_only κs a r r' s s' p q = only p q

pub past_from_only : (κs : _) (a : _) (r r' : _) (s s' : _) → past-from.Post κs a r s → past-from.Post κs a r' s' → r ≡ r'
past_from_only κs a r r' s s' p q = only p q

pub is_served_only : (κs : _) (a : _) (r r' : _) (s s' : _) → is-served.Post κs a r s → is-served.Post κs a r' s' → r ≡ r'
is_served_only κs a r r' s s' p q = only p q

pub served_count_only : (κs : _) (a : _) (r r' : _) (s s' : _) → served-count.Post κs a r s → served-count.Post κs a r' s' → r ≡ r'
served_count_only κs a r r' s s' p q = only p q
