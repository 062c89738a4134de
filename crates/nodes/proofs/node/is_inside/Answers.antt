-- Function: `is_inside` (src/node.rt).
-- Why it holds: The documents, the starts and the ends are compared as `insideb` says.
-- What would break it: A comparison that also takes equal starts, or a document left out, would be
-- caught at its return.
use Rattle.std.proofs.Common.{arith}
use Rattle.std.proofs.lemmas.Grind.{common_steps}
use Rattle.std.proofs.lemmas.Bool.Decides.{nat_tests}
use Rattle.nodes.specs.Node.{insideb}
use Rattle.nodes.proofs.node.is_inside.Goals as goal

pub returns-then-x-y : goal.returns-then-x-y
unfolding insideb
returns-then-x-y c = grind (arith, common_steps, nat_tests)

pub returns-else-x-y : goal.returns-else-x-y
unfolding insideb
returns-else-x-y c = grind (arith, common_steps, nat_tests)
