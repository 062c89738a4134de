-- Function: `node_from` (src/walk.rt).
-- Why it holds: The four words are the node's.
-- What would break it: A word one off would be caught at the return.
use mathlib.Core.Path.{refl}
use Rattle.lists.specs.Private.Walk.{node_from}
use Rattle.lists.proofs.walk.node_from.Goals as goal

pub returns : goal.returns
unfolding node_from
returns c = refl
