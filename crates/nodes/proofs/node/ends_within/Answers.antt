-- Function: `ends_within` (src/node.rt).
-- Why it holds: The comparison is the definition's.
-- What would break it: A comparison that leaves out equal ends would be caught at the return.
use mathlib.Core.Path.{refl}
use Rattle.nodes.specs.Node.{endsb}
use Rattle.nodes.proofs.node.ends_within.Goals as goal

pub returns : goal.returns
unfolding endsb
returns c = refl
