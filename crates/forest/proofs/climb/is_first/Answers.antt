-- Function: `is_first` (src/climb.rt).
-- Why it holds: As a node stands before, `firstb` compares its document.
-- What would break it: A node compared with itself would be caught at the return.
use mathlib.Core.Path.{◌≡◌}
use mathlib.Core.Bool.{not}
use mathlib.Core.List.{List}
use Prim.Native.Nat.{ℕ, ◌-◌, ◌<◌}
use native.Mathlib.Omega.{arith}
use lib.Dec.{eqb}
use borrow.Author.Tests.{ne_eqb}
use Rattle.nodes.specs.declared.node.Node.{Node}
use Rattle.nodes.specs.Words.{nodes, node_at}
use Rattle.forest.specs.Private.Climb.{firstb}
use Rattle.forest.proofs.Containing.{node_in_lem}
use Rattle.forest.proofs.climb.is_first.Goals as goal

compared : (ws : List ℕ) (i : ℕ) → 0 < i → (x n : Node) → x ≡ node_at ws (i - 1) → n ≡ node_at ws i
    → not (eqb x.document n.document) ≡ firstb (nodes ws) i
unfolding firstb
compared ws i l x n p q = rw (ne_eqb i 0 (λ z. omega arith), ← node_in_lem ws (i - 1) x p, ← node_in_lem ws i n q)

pub returns : goal.returns
returns c =
    let a = c.args in
    compared a.list.now a.index c.requires _ _ c.node_at.ensures c.node_at-2.ensures
