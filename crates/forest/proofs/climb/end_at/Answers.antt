-- Function: `end_at` (src/climb.rt).
-- Why it holds: The third word at four times the index is the node's end.
-- What would break it: A word one off would be caught at the return. An index too large would be
-- caught at the read.
use mathlib.Core.Path.{sym, ap}
use native.Mathlib.Omega.{arith}
use Rattle.nodes.proofs.WordLaws.{node_words}
use Rattle.forest.proofs.climb.end_at.Goals as goal

pub returns : goal.returns
returns c = sym (ap (λ n. n.end) (node_words _ _ (omega arith)))
