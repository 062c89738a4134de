-- Why it holds: A search that has passed k nodes adds k to what the search through the rest finds.
-- What would break it: A node that is passed over, or a count one off, would be caught here.
use Prim.Native.Nat.{ℕ, ◌+◌, ◌≤◌, ◌<◌, zero-le}
use mathlib.Core.Path.{◌≡◌, refl}
use mathlib.Core.Bool.{Bool, true, false}
use mathlib.Core.List.{List}
use native.Mathlib.Omega.{arith}
use lib.ListN.{drop}
use Rattle.nodes.specs.declared.node.Node.{Node}
use Rattle.laws.specs.Choose.{first_at}
use Rattle.nodes.specs.Words.{nodes, count, node_at}
use Rattle.nodes.proofs.WordLaws.{nodes_from_lem, nodes_beyond}
use Rattle.laws.proofs.First.{first_hit, first_miss, first_empty}

-- A search through the nodes of words has passed k nodes: they are none of those sought, so with k
-- added the rest still gives the answer.
abbrev pub Searched : (Node → Bool) → List ℕ → ℕ → ℕ → Type 0
Searched test ws answer k = (k ≤ count ws) × (first_at test (drop k (nodes ws)) + k ≡ answer)

module _ (test : Node → Bool) (ws : List ℕ) where
  -- The search begins with all nodes, or from a node on.
  pub search_start : Searched test ws (first_at test (nodes ws)) 0
  search_start = (zero-le, omega arith)

  pub search_from : (from : ℕ) → from ≤ count ws → Searched test ws (first_at test (drop from (nodes ws)) + from) from
  search_from from h = (h, refl)

  -- A node that passes ends the search.
  pub search_found : (answer k : ℕ) (x : Node) → Searched test ws answer k → k < count ws → x ≡ node_at ws k → test x ≡ true → k ≡ answer
  search_found answer k x s h q t =
      let p = s.1 in
      let e : first_at test (drop k (nodes ws)) ≡ 0 = rw (nodes_from_lem ws k h, ← q) (first_hit test x (drop (k + 1) (nodes ws)) t) in
      omega arith

  -- A node that fails is passed.
  pub search_on : (answer k : ℕ) (x : Node) → Searched test ws answer k → k < count ws → x ≡ node_at ws k → test x ≡ false
      → Searched test ws answer (k + 1)
  search_on answer k x s h q t =
      let p = s.1 in
      let e : first_at test (drop k (nodes ws)) ≡ first_at test (drop (k + 1) (nodes ws)) + 1 =
      rw (nodes_from_lem ws k h, ← q) (first_miss test x (drop (k + 1) (nodes ws)) t) in
      (omega arith, omega arith)

  -- No node is left.
  pub search_end : (answer k : ℕ) → Searched test ws answer k → count ws ≤ k → k ≡ answer
  search_end answer k s h =
      let p = s.1 in
      let e : first_at test (drop k (nodes ws)) ≡ 0 = rw (nodes_beyond ws k h) (first_empty test) in
      omega arith
