-- Function: `put_node` (src/node.rt).
-- Why it holds: For an index below the number of nodes, the four stores are `put_node`'s. For any
-- other index neither writes anything.
-- What would break it: A word stored one off would be caught at the last return, and an index too
-- large at a store.
use Prim.Native.Nat.{ℕ, ◌≤◌}
use native.Mathlib.Omega.{arith}
use lib.ListN.{length-set}
use mathlib.Core.Path.{◌≡◌, refl}
use mathlib.Core.List.{List}
use borrow.Author.Tests.{le-ltb}
use Rattle.nodes.specs.declared.node.Node.{Node}
use Rattle.nodes.specs.Words.{count, put_node}
use Rattle.nodes.proofs.WordLaws.{four_stores}
use Rattle.nodes.proofs.node.put_node.Goals as goal

none : (ws : List ℕ) (i : ℕ) (n : Node) → count ws ≤ i → ws ≡ put_node ws i n
unfolding put_node
none ws i n h = rw (le-ltb _ _ h)

pub returns-then-node_count-index : goal.returns-then-node_count-index
returns-then-node_count-index c = none _ _ _ (omega arith)

pub bounds-words-at-2 : goal.bounds-words-at-2
bounds-words-at-2 c = simp length-set (omega arith)

pub bounds-words-at-3 : goal.bounds-words-at-3
bounds-words-at-3 c = simp length-set (omega arith)

pub bounds-words-at-4 : goal.bounds-words-at-4
bounds-words-at-4 c = simp length-set (omega arith)

pub shape_of-words : goal.shape_of-words
shape_of-words c = simp length-set

pub returns : goal.returns
returns c = four_stores _ _ _ _ refl (omega arith)
