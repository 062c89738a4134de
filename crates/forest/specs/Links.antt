-- docs/SCOPE.md, "The containment forest": the links of a list, over all its nodes.
use Rattle.std.specs.Prelude.{ℕ, zero, suc, Bool, cond, not, ◌&&◌, List, [], ◌∷◌, ◌++◌, map, ltb, eqb, length, get_or}
use Rattle.nodes.specs.declared.node.Node.{Node}
use Rattle.laws.specs.Choose.{any}
use Rattle.nodes.specs.Node.{insideb}
use Rattle.nodes.specs.Words.{node}
use Rattle.forest.specs.declared.link.Link.{Link}

-- The word that says there is no such node.
abbrev pub NONE : ℕ
NONE = 4294967295

-- The indices below a number, in their order.
unfoldable pub up_to : ℕ → List ℕ
up_to zero = []
up_to (suc n) = up_to n ++ (n ∷ [])

-- The first of some indices that passes a test, or NONE.
unfoldable pub first_of : (ℕ → Bool) → List ℕ → ℕ
first_of test [] = NONE
first_of test (i ∷ is) = cond (test i) i (first_of test is)

module _ (ns : List Node) where
  -- The node at an index of the list.
  unfoldable pub node_in : ℕ → Node
  node_in i = get_or ns i (node 0 0 0 0)

  -- The indices of the list's nodes.
  unfoldable pub indices : List ℕ
  indices = up_to (length ns)

  -- x is the innermost node that contains n: n is inside x, and no node that contains n is inside
  -- x.
  unfoldable pub innermostb : Node → Node → Bool
  innermostb n x = insideb n x && not (any (λ z. insideb n z && insideb z x) ns)

  -- The index of a node's parent, the innermost node that contains it.
  unfoldable pub parent_of : ℕ → ℕ
  parent_of i = first_of (λ j. innermostb (node_in i) (node_in j)) indices

  -- The index of a node's first child, the first node whose parent it is.
  unfoldable pub child_of : ℕ → ℕ
  child_of i = first_of (λ j. eqb (parent_of j) i) indices

  -- j is a node with i's parent in i's document; both parentless counts as the same.
  unfoldable pub siblingb : ℕ → ℕ → Bool
  siblingb i j = eqb (node_in j).document (node_in i).document && eqb (parent_of j) (parent_of i)

  -- The index of a node's next sibling, the first one after it.
  unfoldable pub next_of : ℕ → ℕ
  next_of i = first_of (λ j. ltb i j && siblingb i j) indices

  -- The three links of the node at an index.
  unfoldable pub link_of : ℕ → Link
  link_of i = record { parent = parent_of i; child = child_of i; next = next_of i }

  -- The links of all nodes.
  unfoldable pub links_of : List Link
  links_of = map link_of indices

-- How many words a node's links take.
abbrev pub LINK_WORDS : ℕ
LINK_WORDS = 3

-- The three words of a node's links.
unfoldable pub link_words : Link → List ℕ
link_words l = l.parent ∷ l.child ∷ l.next ∷ []
