-- Function: `is_running` (src/ancestors.rt).
-- Why it holds: Past the last descendant there is none. Before that, the node at the word `k`
-- decides.
-- What would break it: A word one off, or a test of another node, would be caught at its return.
use mathlib.Core.Path.{◌∙◌}
use native.Mathlib.Omega.{arith}
use borrow.Author.Tests.{le-ltb}
use Rattle.pairs.proofs.Running.{running_none, running_node}
use Rattle.pairs.proofs.ancestors.is_running.Goals as goal

pub returns-else-k-descendants : goal.returns-else-k-descendants
returns-else-k-descendants c = le-ltb _ _ (omega arith) ∙ running_none _ _ _ (omega arith)

pub returns-then-k-descendants : goal.returns-then-k-descendants
returns-then-k-descendants c = running_node _ _ _ _ _ (omega arith) c.node_from.ensures c.is_open.ensures
