-- Function: `is_same` (src/node.rt).
-- Why it holds: Two nodes are equal where all four words are, as `sameb` says.
-- What would break it: A word left out, or compared with another, would be caught at the return.
use Rattle.nodes.specs.Node.{sameb}
use Rattle.nodes.proofs.node.is_same.Goals as goal

pub returns : goal.returns
unfolding sameb
returns c = c.eq.ensures
