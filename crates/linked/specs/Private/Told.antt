-- Words of the contracts of private functions: which of the words that are lent were found to be
-- the links of a list's nodes. No public contract cites this file.
use Rattle.std.specs.Prelude.{ℕ, ◌+◌, ◌*◌, ◌≤◌, ◌<◌, ◌≡◌, Bool, true, false, ◌&&◌, List, eqb, length, get_or}
use Rattle.nodes.specs.declared.node.Node.{Node}
use Rattle.nodes.specs.Node.{insideb}
use Rattle.forest.specs.Links.{LINK_WORDS, node_in, parent_of, child_of, next_of}

-- Node i is the last one of its document.
abbrev pub LastOfDocument : List Node → ℕ → Type 0
LastOfDocument ns i = (j : ℕ) → i < j → j < length ns → (node_in ns j).document ≡ (node_in ns i).document → ⊥

-- The links say that node i comes next after node e, and that both have one parent.
unfoldable pub sibling_toldb : List ℕ → ℕ → ℕ → Bool
sibling_toldb links e i =
    eqb (get_or links (LINK_WORDS * e + 2) 0) i && eqb (get_or links (LINK_WORDS * i) 0) (get_or links (LINK_WORDS * e) 0)

-- Some nodes and the words that are lent as their links.
module _ (ns : List Node) (links : List ℕ) where
  -- The words of node i that must be its parent, its first child and its next sibling are.
  abbrev pub ParentTold : ℕ → Type 0
  ParentTold i = get_or links (LINK_WORDS * i) 0 ≡ parent_of ns i

  abbrev pub ChildTold : ℕ → Type 0
  ChildTold i = get_or links (LINK_WORDS * i + 1) 0 ≡ child_of ns i

  abbrev pub NextTold : ℕ → Type 0
  NextTold i = get_or links (LINK_WORDS * i + 2) 0 ≡ next_of ns i

  -- The links are those that the nodes up to node i tell. These are the parents of all of them, the
  -- first children of those before it, and the next siblings of those that don't contain it.
  pub record Told (i : ℕ) : Type 0 where
    pub parents : (j : ℕ) → j ≤ i → ParentTold j
    pub children : (j : ℕ) → j < i → ChildTold j
    pub nexts : (j : ℕ) → j < i → insideb (node_in ns i) (node_in ns j) ≡ false → NextTold j

  -- All links of the first `bound` nodes are told.
  pub record AllTold (bound : ℕ) : Type 0 where
    pub parents : (j : ℕ) → j < bound → ParentTold j
    pub children : (j : ℕ) → j < bound → ChildTold j
    pub nexts : (j : ℕ) → j < bound → NextTold j

  -- What a test shows: `Shown` where it says yes, and where it says no, that some word is wrong.
  pub record Shows (Shown : Type 0) (answer : Bool) : Type 0 where
    pub yes : answer ≡ true → Shown
    pub no : answer ≡ false → AllTold (length ns) → ⊥
