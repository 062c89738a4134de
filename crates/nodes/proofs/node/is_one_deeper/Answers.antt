-- Function: `is_one_deeper` (src/node.rt).
-- Why it holds: The comparison is the definition's, in a width that holds the greatest word and one
-- more.
-- What would break it: Any other step between the levels would be caught at the return.
use mathlib.Core.Path.{refl}
use Rattle.nodes.specs.Node.{deeperb}
use Rattle.nodes.proofs.node.is_one_deeper.Goals as goal

pub returns : goal.returns
unfolding deeperb
returns c = refl
