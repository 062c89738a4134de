-- docs/SCOPE.md, "Order and size": the trees of Li and Moon, their conditions on order and size,
-- and the list that such a tree is lent as.
use Rattle.std.specs.Prelude.{ℕ, ◌+◌, ◌≤◌, ◌<◌, ◌≡◌, List, [], ◌∷◌, ◌++◌, map}
use Rattle.answers.specs.Output.{words_in}
use Rattle.laws.specs.Choose.{In}
use Rattle.nodes.specs.declared.node.Node.{Node}
use Rattle.nodes.specs.Node.{MOST_LEVELS}
use Rattle.nodes.specs.Words.{node, words_of}

-- The numbers of one node of a tree: its order and its size, and its level.
pub record Label : Type 0 where
  pub order : ℕ
  pub size : ℕ
  pub level : ℕ

-- A label of its three numbers.
abbrev pub label : ℕ → ℕ → ℕ → Label
label order size level = record { order = order; size = size; level = level }

-- Siblings from the first to the last: none, or one with its own children and the siblings after
-- it. A whole tree is its root, with no siblings.
pub data Siblings : Type 0 where
  none : Siblings
  sibling : (label : Label) (children later : Siblings) → Siblings

-- The labels of the siblings themselves.
unfoldable pub tops : Siblings → List Label
tops none = []
tops (sibling x children later) = x ∷ tops later

-- The labels of the siblings and of all that stands below them, in preorder: a node, all that is
-- below it, and then the siblings after it.
unfoldable pub labels : Siblings → List Label
labels none = []
labels (sibling x children later) = x ∷ labels children ++ labels later

-- x is the parent of y, anywhere among the siblings or below them.
pub data Parent (x y : Label) : Siblings → Type 0 where
  here : {children later : Siblings} → In y (tops children) → Parent x y (sibling x children later)
  below : {z : Label} {children later : Siblings} → Parent x y children → Parent x y (sibling z children later)
  beside : {z : Label} {children later : Siblings} → Parent x y later → Parent x y (sibling z children later)

-- x and y are siblings and x comes first, anywhere among the siblings or below them.
pub data Precedes (x y : Label) : Siblings → Type 0 where
  here : {children later : Siblings} → In y (tops later) → Precedes x y (sibling x children later)
  below : {z : Label} {children later : Siblings} → Precedes x y children → Precedes x y (sibling z children later)
  beside : {z : Label} {children later : Siblings} → Precedes x y later → Precedes x y (sibling z children later)

-- x is an ancestor of y: its parent, or an ancestor of its parent.
pub data Ancestor (t : Siblings) (x : Label) : Label → Type 0 where
  parent : {y : Label} → Parent x y t → Ancestor t x y
  further : {z y : Label} → Ancestor t x z → Parent z y t → Ancestor t x y

-- The tree is numbered as Li and Moon ask, and has levels that this library takes.
pub record Numbered (t : Siblings) : Type 0 where
  -- Of a node y and its parent x: x has the smaller order, and y's order and size together don't
  -- pass those of x.
  pub parents : (x y : Label) → Parent x y t → (x.order < y.order) × (y.order + y.size ≤ x.order + x.size)
  -- A sibling's order and size together are below the order of each sibling after it.
  pub siblings : (x y : Label) → Precedes x y t → x.order + x.size < y.order
  -- Levels rise from parent to child, from 1 at the lowest to 64 at the highest.
  pub rising : (x y : Label) → Parent x y t → x.level < y.level
  pub levels : (x : Label) → In x (labels t) → (1 ≤ x.level) × (x.level ≤ MOST_LEVELS)

-- The node of a label: the order is its start, and order and size together are its end.
abbrev pub node_of : ℕ → Label → Node
node_of document x = node document x.order (x.order + x.size) x.level

-- The tree as a list of nodes of one document, in preorder.
unfoldable pub list_of : ℕ → Siblings → List Node
list_of document t = map (node_of document) (labels t)

-- The words of that list.
unfoldable pub tree_words : ℕ → Siblings → List ℕ
tree_words document t = words_in words_of (list_of document t)

-- The nodes a and d are those of two labels of the tree: a's is an ancestor of d's.
pub record AncestorOf (document : ℕ) (t : Siblings) (a d : Node) : Type 0 where
  pub x : Label
  pub y : Label
  pub ancestor_is : a ≡ node_of document x
  pub descendant_is : d ≡ node_of document y
  pub ancestor : Ancestor t x y
