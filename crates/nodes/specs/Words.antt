-- docs/SCOPE.md, "Nodes and lists": a list of nodes is a list of words, four words a node, node
-- after node.
use Rattle.std.specs.Prelude.{ℕ, ◌*◌, ◌/◌, cond, List, [], ◌∷◌, ltb, length, get_or}
use Rattle.std.proofs.lemmas.List.Edits.{sets}
use Rattle.nodes.specs.declared.node.Node.{Node}

-- A node of its four words.
abbrev pub node : ℕ → ℕ → ℕ → ℕ → Node
node document start end level = record { document = document; start = start; end = end; level = level }

-- How many words a node takes.
abbrev pub NODE_WORDS : ℕ
NODE_WORDS = 4

-- The most nodes, rows or marks that one list may have.
abbrev pub MOST_NODES : ℕ
MOST_NODES = 4096

-- The nodes that the words make, four words each; up to three words at the end are left over.
unfoldable pub nodes : List ℕ → List Node
nodes [] = []
nodes (d ∷ []) = []
nodes (d ∷ s ∷ []) = []
nodes (d ∷ s ∷ e ∷ []) = []
nodes (d ∷ s ∷ e ∷ l ∷ words) = node d s e l ∷ nodes words

-- How many whole nodes the words make.
abbrev pub count : List ℕ → ℕ
count words = length words / NODE_WORDS

-- The node at an index, or a node of zeros where there is none.
unfoldable pub node_at : List ℕ → ℕ → Node
node_at words index = get_or (nodes words) index (node 0 0 0 0)

-- The four words of a node.
unfoldable pub words_of : Node → List ℕ
words_of n = n.document ∷ n.start ∷ n.end ∷ n.level ∷ []

-- The words with the node at an index replaced by n; unaltered where there is none.
unfoldable pub put_node : List ℕ → ℕ → Node → List ℕ
put_node words index n = cond (ltb index (count words)) (sets words (NODE_WORDS * index) (words_of n)) words
