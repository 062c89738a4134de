-- The merge of two lists in node order, in which a node that stands in both comes once. And what it
-- is for words to make whole nodes. No public contract cites this file.
use Rattle.std.specs.Prelude.{ℕ, ◌%◌, ◌≤◌, ◌≡◌, cond, List, [], ◌∷◌, length}
use Rattle.nodes.specs.declared.node.Node.{Node}
use Rattle.nodes.specs.Node.{afterb, sameb}
use Rattle.nodes.specs.Words.{NODE_WORDS, MOST_NODES, count}

-- x followed by xs, merged with a list; `later` merges xs with any list.
unfoldable pub merge_into : Node → List Node → (List Node → List Node) → List Node → List Node
merge_into x xs later [] = x ∷ xs
merge_into x xs later (y ∷ ys) =
    cond (afterb y x) (x ∷ later (y ∷ ys))
    (cond (sameb x y) (x ∷ later ys)
    (y ∷ merge_into x xs later ys))

-- Two lists merged in node order; a node of both comes once.
unfoldable pub merge : List Node → List Node → List Node
merge [] ys = ys
merge (x ∷ xs) ys = merge_into x xs (merge xs) ys

-- The words make whole nodes, at most 4,096.
abbrev pub Whole : List ℕ → Type 0
Whole words = (length words % NODE_WORDS ≡ 0) × (count words ≤ MOST_NODES)

-- The words make whole nodes, and word i begins one of them or is past the last.
abbrev pub Cut : ℕ → List ℕ → Type 0
Cut i words = (i ≤ length words) × (i % NODE_WORDS ≡ 0) × (length words % NODE_WORDS ≡ 0)
