-- Function: `node_in` (src/little.rt).
-- Why it holds: For an index below the number of nodes, the sixteen bytes from `NODE_BYTES * index`
-- on are the node's four numbers. For any other index the definition gives zeros.
-- What would break it: A number one off, or two exchanged, would be caught at the last return. An
-- index too large would be caught at a call's requirement.
use mathlib.Core.Path.{◌≡◌, sym, ◌∙◌}
use mathlib.Core.List.{List}
use Prim.Native.Nat.{ℕ, ◌/◌, ◌≤◌}
use native.Mathlib.Omega.{arith}
use lib.ListN.{length, get_or-eq_default}
use Rattle.nodes.specs.Words.{node, nodes, node_at}
use Rattle.nodes.proofs.WordLaws.{zeros}
use Rattle.numbers.specs.Little.{NODE_BYTES, numbers, node_in}
use Rattle.numbers.proofs.LittleLaws.{nodes_in, node_numbers}
use Rattle.numbers.proofs.little.node_in.Goals as goal

none : (bs : List ℕ) (i : ℕ) → length bs / NODE_BYTES ≤ i → node 0 0 0 0 ≡ node_in bs i
unfolding node_in node_at
none bs i h = sym (get_or-eq_default (nodes (numbers bs)) (node 0 0 0 0) (omega (arith, nodes_in bs)))

pub returns-then-bytes-index : goal.returns-then-bytes-index
returns-then-bytes-index c = zeros c.default.result c.default.ensures ∙ none _ _ (omega arith)

pub returns : goal.returns
returns c =
    node_numbers
    _ _ _ _ _ _
    (omega arith)
    c.number_from.ensures
    c.number_from-2.ensures
    c.number_from-3.ensures
    c.number_from-4.ensures
