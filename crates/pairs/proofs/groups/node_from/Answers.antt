-- Function: `node_from` (src/groups.rt).
-- Why it holds: The four words from the word `at` on are those of the node there.
-- What would break it: A word read one off would be caught at the return.
use mathlib.Core.Path.{◌≡◌, sym}
use mathlib.Core.List.{List}
use Prim.Native.Nat.{ℕ, ◌*◌, ◌<◌}
use native.Mathlib.Omega.{arith}
use Rattle.nodes.specs.Words.{count, node_at}
use Rattle.nodes.proofs.WordLaws.{node_words}
use Rattle.lists.specs.Private.Walk.{node_from}
use Rattle.pairs.proofs.groups.node_from.Goals as goal

-- The node whose words start at 4 * k is node k.
words_at_lem : (ws : List ℕ) (w k : ℕ) → w ≡ 4 * k → k < count ws → node_from ws w ≡ node_at ws k
unfolding node_from
words_at_lem ws w k q h = rw q (sym (node_words ws k h))

pub returns : goal.returns
unfolding node_from
returns c = words_at_lem _ _ _ (omega arith) (omega arith)
