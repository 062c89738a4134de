-- Function: `node_at` (src/node.rt).
-- Why it holds: For an index below the number of nodes, the four words from `NODE_WORDS * index` on
-- are the node's. For any other index the definition gives zeros, as the default node has.
-- What would break it: A word one off would be caught at the last return, and an index too large at
-- a read.
use mathlib.Core.Path.{◌≡◌, sym, ◌∙◌}
use mathlib.Core.List.{List}
use Prim.Native.Nat.{ℕ, ◌≤◌}
use native.Mathlib.Omega.{arith}
use lib.ListN.{get_or-eq_default}
use Rattle.nodes.specs.Words.{node, nodes, count, node_at}
use Rattle.nodes.proofs.WordLaws.{length_nodes, node_words, zeros}
use Rattle.nodes.proofs.node.node_at.Goals as goal

none : (ws : List ℕ) (i : ℕ) → count ws ≤ i → node 0 0 0 0 ≡ node_at ws i
unfolding node_at
none ws i h = sym (get_or-eq_default (nodes ws) (node 0 0 0 0) (omega (arith, length_nodes ws)))

pub returns-then-node_count-index : goal.returns-then-node_count-index
returns-then-node_count-index c = zeros c.default.result c.default.ensures ∙ none _ _ (omega arith)

pub returns : goal.returns
returns c = sym (node_words _ _ (omega arith))
