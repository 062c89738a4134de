-- What is checked of the pieces of a list, one by one and two by two, and what is checked of the
-- whole.
use Rattle.std.specs.Prelude.{ℕ, ◌-◌, ◌<◌, ◌≡◌, true, List, [], ◌∷◌}
use Rattle.answers.specs.Answer.{TAKEN}
use Rattle.laws.specs.Choose.{All, EveryTwo}
use Rattle.nodes.specs.declared.node.Node.{Node}
use Rattle.nodes.specs.Node.{afterb}
use Rattle.nodes.specs.Words.{nodes, node_at, count}
use Rattle.lists.specs.Check.{word_fault, check_nodes, check_words}
use Rattle.lists.specs.Two.{check_two}

-- The nodes draw none of the answers 3 to 7, however many they are.
abbrev pub DrawsNone : List ℕ → Type 0
DrawsNone w = (check_nodes (nodes w)).answer ≡ TAKEN

-- The piece has whole nodes, and no more of them than a call takes.
abbrev pub Fits : List ℕ → Type 0
Fits w = word_fault w ≡ TAKEN

-- The piece has a node.
abbrev pub HasNode : List ℕ → Type 0
HasNode w = 0 < count w

-- The piece is taken.
abbrev pub Taken : List ℕ → Type 0
Taken w = (check_words w).answer ≡ TAKEN

-- The two pieces are taken together.
abbrev pub TakenTogether : List ℕ → List ℕ → Type 0
TakenTogether v w = (check_two v w).answer ≡ TAKEN

-- `R` holds of every node of `v` and every node of `w`.
abbrev pub Across : (Node → Node → Type 0) → List ℕ → List ℕ → Type 0
Across R v w = All (λ e. All (λ n. R e n) (nodes w)) (nodes v)

-- Every node of `w` stands after every node of `v`.
abbrev pub StandsAfter : List ℕ → List ℕ → Type 0
StandsAfter w v = Across (λ e n. afterb n e ≡ true) v w

-- Every node of `v` is of a lower document than every node of `w`.
abbrev pub LowerDocuments : List ℕ → List ℕ → Type 0
LowerDocuments v w = Across (λ e n. e.document < n.document) v w

-- No node of `v` shares its document with a node of `w`.
abbrev pub OtherDocuments : List ℕ → List ℕ → Type 0
OtherDocuments v w = Across (λ e n. e.document ≡ n.document → ⊥) v w

-- The first node of a piece.
abbrev pub first_node : List ℕ → Node
first_node w = node_at w 0

-- The last node of a piece.
abbrev pub last_node : List ℕ → Node
last_node w = node_at w (count w - 1)

-- The first node of `w` comes after the last node of `v`, by document and start.
abbrev pub StartsAfter : List ℕ → List ℕ → Type 0
StartsAfter w v = afterb (first_node w) (last_node v) ≡ true

-- `R` holds of every piece and the piece right after it.
abbrev pub EachNext : (List ℕ → List ℕ → Type 0) → List (List ℕ) → Type 0
EachNext R [] = Unit {0}
EachNext R (v ∷ []) = Unit {0}
EachNext R (v ∷ w ∷ ws) = R v w × EachNext R (w ∷ ws)

-- The pieces pass: each is taken, and any two are taken together, the later standing after the
-- earlier.
abbrev pub PiecesPass : List (List ℕ) → Type 0
PiecesPass ws = All Taken ws × EveryTwo (λ v w. TakenTogether v w × StandsAfter w v) ws
