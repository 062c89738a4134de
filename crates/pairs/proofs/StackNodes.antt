-- Why it holds: The first k nodes of a list are kept with the last one first, so counting up adds a
-- head and counting down takes it off. Popping and pushing are such counts.
-- What would break it: A node read or written one place off would be caught here.
use mathlib.Core.Path.{◌≡◌, refl, ap, ◌∙◌}
use mathlib.Core.Bool.{true, false}
use mathlib.Core.List.{List, ◌∷◌}
use Prim.Native.Nat.{ℕ, zero, suc, ◌+◌, ◌-◌, ◌/◌, ◌%◌, ◌≤◌, ◌<◌}
use native.Mathlib.Nat.{not-suc-le-zero}
use native.Mathlib.Numerals.{sub-one, add-one}
use native.Mathlib.Omega.{arith}
use lib.ListN.{length, get_or, set}
use lib.Seq.{get_or-set_same, get_or-set_other}
use Rattle.nodes.specs.declared.node.Node.{Node}
use Rattle.nodes.specs.Node.{openb}
use Rattle.nodes.specs.Words.{node, nodes, count, node_at, put_node}
use Rattle.nodes.proofs.WordLaws.{length_nodes, nodes_put}
use Rattle.lists.specs.Private.Walk.{unended}
use Rattle.pairs.specs.Private.Stack.{firsts, opened}

-- The head of the first k nodes is the node at index k - 1.
head_at : (k : ℕ) (ws : List ℕ) → 0 < k → firsts k (nodes ws) ≡ node_at ws (k - 1) ∷ firsts (k - 1) (nodes ws)
unfolding firsts node_at
head_at zero ws h = absurd (not-suc-le-zero h)
head_at (suc k) ws h = rw (sub-one (suc k)) refl

pub length_firsts : (k : ℕ) (ns : List Node) → length (firsts k ns) ≡ k
unfolding firsts
length_firsts zero ns = refl
length_firsts (suc k) ns = ap suc (length_firsts k ns)

-- A node stored at or after index k leaves the first k as they are.
firsts_set : (k : ℕ) (ns : List Node) (i : ℕ) (n : Node) → k ≤ i → firsts k (set ns i n) ≡ firsts k ns
unfolding firsts
firsts_set zero ns i n h = refl
firsts_set (suc k) ns i n h =
    ap (λ e. e ∷ firsts k (set ns i n)) (get_or-set_other ns i k n (node 0 0 0 0) (omega arith))
    ∙ ap (λ es. get_or ns k (node 0 0 0 0) ∷ es) (firsts_set k ns i n (omega arith))

-- Storing a node at index k puts it at the head of the first k + 1.
firsts_push : (k : ℕ) (ns : List Node) (n : Node) → k < length ns → firsts (k + 1) (set ns k n) ≡ n ∷ firsts k ns
unfolding firsts
firsts_push k ns n h =
    rw (add-one k)
    (ap (λ e. e ∷ firsts k (set ns k n)) (get_or-set_same ns k n (node 0 0 0 0) h) ∙ ap (λ es. n ∷ es) (firsts_set k ns k n (omega arith)))

-- The same, for a node written as words.
firsts_put : (ws us : List ℕ) (k : ℕ) (n : Node) → k < count ws → us ≡ put_node ws k n → firsts (k + 1) (nodes us) ≡ n ∷ firsts k (nodes ws)
firsts_put ws us k n h e =
    ap (λ vs. firsts (k + 1) (nodes vs)) e
    ∙ ap (firsts (k + 1)) (nodes_put ws k n h)
    ∙ firsts_push k (nodes ws) n (omega (arith, length_nodes ws))

-- So a stack grows and shrinks by the words of one node.
pub top_at : (u : ℕ) (ws : List ℕ) → 0 < u → u % 4 ≡ 0 → opened u ws ≡ node_at ws (u / 4 - 1) ∷ opened (u - 4) ws
top_at u ws h m = head_at (u / 4) ws (omega arith) ∙ ap (λ k. node_at ws (u / 4 - 1) ∷ firsts k (nodes ws)) (omega arith)

pub top_put : (ws us : List ℕ) (u : ℕ) (n : Node) → u / 4 < count ws → us ≡ put_node ws (u / 4) n → opened (u + 4) us ≡ n ∷ opened u ws
top_put ws us u n h e = ap (λ k. firsts k (nodes us)) (omega arith) ∙ firsts_put ws us (u / 4) n h e

-- An open head ends the taking off; a head that isn't open is taken off.
pub head_open : (k : ℕ) (ws : List ℕ) (n e : Node) → 0 < k → e ≡ node_at ws (k - 1) → openb n e ≡ true
    → firsts k (nodes ws) ≡ unended n (firsts k (nodes ws))
unfolding unended
head_open k ws n e h q o = rw (head_at k ws h, ← q, o)

pub head_shut : (k : ℕ) (ws : List ℕ) (n e : Node) → 0 < k → e ≡ node_at ws (k - 1) → openb n e ≡ false
    → unended n (firsts (k - 1) (nodes ws)) ≡ unended n (firsts k (nodes ws))
unfolding unended
head_shut k ws n e h q o = rw (head_at k ws h, ← q, o)

-- Where no node is left, none is taken off.
pub head_none : (k : ℕ) (ws : List ℕ) (n : Node) → k ≤ 0 → firsts k (nodes ws) ≡ unended n (firsts k (nodes ws))
unfolding firsts unended
head_none zero ws n h = refl
head_none (suc k) ws n h = absurd (not-suc-le-zero h)
