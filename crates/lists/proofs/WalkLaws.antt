-- Why it holds: Each node of a chain has a higher level than the next, so a chain is no longer than
-- its head is deep. What n leaves of a chain is the end of it, so that what holds of all its nodes
-- holds of those left.
-- What would break it: A node read one word off would be caught at `head_from`. A chain that went
-- past the greatest level would be caught at `chain_length`.
use mathlib.Core.Path.{◌≡◌, refl, ap}
use mathlib.Core.Bool.{false}
use mathlib.Core.Logic.{inl, inr}
use mathlib.Core.List.{List, [], ◌∷◌}
use Prim.Native.Nat.{ℕ, suc, ◌+◌, ◌≤◌, ◌<◌}
use native.Mathlib.Omega.{arith}
use lib.ListN.{length, get_or, drop, drop_of_length-le}
use lib.Seq.{drop-cons}
use Rattle.nodes.specs.declared.node.Node.{Node}
use Rattle.nodes.specs.Node.{openb}
use Rattle.nodes.specs.Words.{nodes}
use Rattle.nodes.proofs.NodeLaws.{open_read}
use Rattle.laws.specs.Choose.{All}
use Rattle.laws.proofs.Tests.{either, not_so}
use Rattle.lists.specs.Private.Walk.{node_from, unended, Chain}

-- The words from i on begin with the four words there.
four_on : (ws : List ℕ) (i a b c d : ℕ) → a ≡ suc i → b ≡ suc a → c ≡ suc b → d ≡ suc c → c < length ws
    → drop i ws ≡ get_or ws i 0 ∷ get_or ws a 0 ∷ get_or ws b 0 ∷ get_or ws c 0 ∷ drop d ws
four_on ws i a b c d p q r s h =
    rw (s, ← drop-cons ws c 0 h, r, ← drop-cons ws b 0 (omega arith), q, ← drop-cons ws a 0 (omega arith), p) (drop-cons ws i 0 (omega arith))

-- So the nodes from there on begin with the node whose words start there; at the end there is none.
pub head_from : (ws : List ℕ) (i : ℕ) → i + 3 < length ws → nodes (drop i ws) ≡ node_from ws i ∷ nodes (drop (i + 4) ws)
unfolding nodes node_from
head_from ws i h = ap nodes (four_on ws i (i + 1) (i + 2) (i + 3) (i + 4) (omega arith) (omega arith) (omega arith) (omega arith) h)

pub none_from : (ws : List ℕ) (i : ℕ) → length ws ≤ i → nodes (drop i ws) ≡ []
unfolding nodes
none_from ws i h = rw (drop_of_length-le ws {i = i} h) refl

-- A chain is at most as long as its head is deep.
pub chain_length : (e : Node) (es : List Node) → Chain (e ∷ es) → length (e ∷ es) ≤ e.level
chain_length e [] h = h.0
chain_length e (f ∷ es) h = let p = chain_length f es h.2 in let q = h.1.1 in omega arith

-- What is left of a chain is a chain, and what holds of all its nodes holds of those left.
pub chain_left : (n : Node) (es : List Node) → Chain es → Chain (unended n es)
unfolding unended
chain_left n [] h = tt
chain_left n (e ∷ es) h = elim (either (openb n e)) [ inl o ↦ rw o h | inr o ↦ rw o (chain_left n es h.2) ]

pub all_left : (P : Node → Type 0) (n : Node) (es : List Node) → All P es → All P (unended n es)
unfolding unended
all_left P n [] h = tt
all_left P n (e ∷ es) h = elim (either (openb n e)) [ inl o ↦ rw o h | inr o ↦ rw o (all_left P n es h.1) ]

-- At a node of another document all have ended.
pub all_ended : (n : Node) (d : ℕ) (s : List Node) → d < n.document → All (λ e. e.document ≡ d) s → unended n s ≡ []
unfolding unended
all_ended n d [] h a = refl
all_ended n d (e ∷ s) h a =
    let q = a.0 in
    let o : openb n e ≡ false = not_so (λ o. let p = (open_read n e o).document in omega arith) in
    rw o (all_ended n d s h a.1)
