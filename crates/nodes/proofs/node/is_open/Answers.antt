-- Function: `is_open` (src/node.rt).
-- Why it holds: The documents are compared first, and the end with the start only within one
-- document, as `openb` does.
-- What would break it: A strict comparison, or a document left out, would be caught at its return.
use Rattle.std.proofs.Common.{arith}
use Rattle.std.proofs.lemmas.Grind.{common_steps}
use Rattle.std.proofs.lemmas.Bool.Decides.{nat_tests}
use Rattle.nodes.specs.Node.{openb}
use Rattle.nodes.proofs.node.is_open.Goals as goal

pub returns-then-e-n : goal.returns-then-e-n
unfolding openb
returns-then-e-n c = grind (arith, common_steps, nat_tests)

pub returns-else-e-n : goal.returns-else-e-n
unfolding openb
returns-else-e-n c = grind (arith, common_steps, nat_tests)
