-- Why it holds: Each public contract is an equation with a definition, and two things that equal a
-- third are equal. So no second answer satisfies it.
-- What would break it: A contract that left open a field of its answer, or a word of the list it
-- writes, would be caught here.
use mathlib.Core.Path.{◌≡◌}
use Rattle.laws.proofs.Only.{only}
use Rattle.nodes.proofs.node.ends_within.Reads as ends-within
use Rattle.nodes.proofs.node.is_after.Reads as is-after
use Rattle.nodes.proofs.node.is_inside.Reads as is-inside
use Rattle.nodes.proofs.node.is_one_deeper.Reads as is-one-deeper
use Rattle.nodes.proofs.node.is_open.Reads as is_open
use Rattle.nodes.proofs.node.is_same.Reads as is_same
use Rattle.nodes.proofs.node.node_at.Reads as Node-at
use Rattle.nodes.proofs.node.node_count.Reads as node-count
use Rattle.nodes.proofs.node.put_node.Reads as put-node

pub ends_within_only : (κs : _) (a : _) (r r' : _) (s s' : _) → ends-within.Post κs a r s → ends-within.Post κs a r' s' → r ≡ r'
ends_within_only κs a r r' s s' p q = only p q

pub is_inside_only : (κs : _) (a : _) (r r' : _) (s s' : _) → is-inside.Post κs a r s → is-inside.Post κs a r' s' → r ≡ r'
is_inside_only κs a r r' s s' p q = only p q

pub is_one_deeper_only : (κs : _) (a : _) (r r' : _) (s s' : _) → is-one-deeper.Post κs a r s → is-one-deeper.Post κs a r' s' → r ≡ r'
is_one_deeper_only κs a r r' s s' p q = only p q

pub is_after_only : (κs : _) (a : _) (r r' : _) (s s' : _) → is-after.Post κs a r s → is-after.Post κs a r' s' → r ≡ r'
is_after_only κs a r r' s s' p q = only p q

pub is_open_only : (κs : _) (a : _) (r r' : _) (s s' : _) → is_open.Post κs a r s → is_open.Post κs a r' s' → r ≡ r'
is_open_only κs a r r' s s' p q = only p q

pub is_same_only : (κs : _) (a : _) (r r' : _) (s s' : _) → is_same.Post κs a r s → is_same.Post κs a r' s' → r ≡ r'
is_same_only κs a r r' s s' p q = only p q

pub node_count_only : (κs : _) (a : _) (r r' : _) (s s' : _) → node-count.Post κs a r s → node-count.Post κs a r' s' → r ≡ r'
node_count_only κs a r r' s s' p q = only p q

pub node_at_only : (κs : _) (a : _) (r r' : _) (s s' : _) → Node-at.Post κs a r s → Node-at.Post κs a r' s' → r ≡ r'
node_at_only κs a r r' s s' p q = only p q

pub put_node_only : (κs : _) (a : _) (r r' : _) (s s' : _) → put-node.Post κs a r s → put-node.Post κs a r' s' → s.0.now ≡ s'.0.now
put_node_only κs a r r' s s' p q = only p q
