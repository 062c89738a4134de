-- Words of the contracts of private functions: the links of a list as far as its first nodes tell
-- them, and how a node stands to the nodes before it. No public contract cites this file.
use Rattle.std.specs.Prelude.{ℕ, ◌*◌, ◌-◌, ◌<◌, ◌≡◌, Bool, true, false, cond, not, ◌&&◌, List, Option, Some, None, map, ltb, eqb, take}
use Rattle.nodes.specs.declared.node.Node.{Node}
use Rattle.answers.specs.Output.{words_in}
use Rattle.forest.specs.declared.link.Link.{Link}
use Rattle.forest.specs.Links.{NONE, LINK_WORDS, up_to, first_of, node_in, parent_of, siblingb, link_words}

-- The index that a link's word names, if any, and the word that names an index.
abbrev pub index_in : ℕ → Option ℕ
index_in word = cond (eqb word NONE) None (Some word)

abbrev pub word_of : Option ℕ → ℕ
word_of None = NONE
word_of (Some index) = index

-- The links of a node, with its three indices.
abbrev pub link : ℕ → ℕ → ℕ → Link
link parent child next = record { parent = parent; child = child; next = next }

module _ (ns : List Node) (count : ℕ) where
  -- A node's first child, where only the first `count` nodes are looked at.
  unfoldable pub child_to : ℕ → ℕ
  child_to i = first_of (λ j. eqb (parent_of ns j) i) (up_to count)

  -- Its next sibling among them.
  unfoldable pub next_to : ℕ → ℕ
  next_to i = first_of (λ j. ltb i j && siblingb ns i j) (up_to count)

  -- Its links among them.
  unfoldable pub link_to : ℕ → Link
  link_to i = link (parent_of ns i) (child_to i) (next_to i)

  -- The words of the links of the first `count` nodes.
  unfoldable pub links_to : List ℕ
  links_to = words_in link_words (map link_to (up_to count))

  -- The words begin with these.
  abbrev pub Linking : List ℕ → Type 0
  Linking words = take (LINK_WORDS * count) words ≡ links_to

-- Node i is the first one of its document: no node stands before it, or the one before is of
-- another.
unfoldable pub firstb : List Node → ℕ → Bool
firstb ns i = cond (eqb i 0) true (not (eqb (node_in ns (i - 1)).document (node_in ns i).document))

-- The node before node i is of its document and ended before it starts.
pub record Ended (ns : List Node) (i : ℕ) : Type 0 where
  pub later : 0 < i
  pub document : (node_in ns (i - 1)).document ≡ (node_in ns i).document
  pub ended : (node_in ns (i - 1)).end < (node_in ns i).start

-- e is node i's elder: the last node before it, in its document, that has the same parent.
pub record Elder (ns : List Node) (i e : ℕ) : Type 0 where
  pub before : e < i
  pub sibling : siblingb ns i e ≡ true
  pub last : (j : ℕ) → e < j → j < i → siblingb ns i j ≡ false
