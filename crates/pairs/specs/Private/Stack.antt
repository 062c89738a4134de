-- The stack of a listing, for the contracts of private functions. No public contract cites this
-- file.
use Rattle.std.specs.Prelude.{ℕ, zero, suc, ◌*◌, ◌/◌, ◌%◌, ◌≤◌, ◌≡◌, List, [], ◌∷◌, get_or}
use Rattle.nodes.specs.declared.node.Node.{Node}
use Rattle.nodes.specs.Node.{MOST_LEVELS}
use Rattle.nodes.specs.Words.{NODE_WORDS, node, nodes}

-- The first k nodes of a list, the last one first.
unfoldable pub firsts : ℕ → List Node → List Node
firsts zero ns = []
firsts (suc k) ns = get_or ns k (node 0 0 0 0) ∷ firsts k ns

-- The nodes in the first `used` words of a stack, the last one first.
abbrev pub opened : ℕ → List ℕ → List Node
opened used words = firsts (used / NODE_WORDS) (nodes words)

-- `used` words are whole nodes, at most one for each level.
abbrev pub Fits : ℕ → Type 0
Fits used = (used % NODE_WORDS ≡ 0) × (used ≤ NODE_WORDS * MOST_LEVELS)
