-- Lists numbered by order and size, as Li and Moon number the nodes of a tree (docs/SCOPE.md,
-- "Order and size"). A rule of theirs that let two nodes cross, or a node that ends where its
-- parent ends and isn't inside it, would be caught here.
use mathlib.Core.Path.{◌≡◌}
use mathlib.Core.Logic.{◌↔◌}
use mathlib.Core.Bool.{true}
use mathlib.Core.List.{List}
use Prim.Native.Nat.{ℕ, ◌+◌, ◌%◌, ◌≤◌, ◌<◌}
use lib.ListN.{length}
use Rattle.answers.specs.Answer.{TAKEN}
use Rattle.laws.specs.Choose.{EveryTwo, In, Part}
use Rattle.nodes.specs.Node.{insideb, directlyb}
use Rattle.nodes.specs.Words.{NODE_WORDS, MOST_NODES, nodes, count}
use Rattle.lists.specs.Check.{check_words}
use Rattle.lists.specs.Two.{check_two}
use Rattle.tickets.specs.declared.ticket.Order.{Order}
use Rattle.tickets.specs.declared.ticket.Relation.TheVariants.{Inside}
use Rattle.tickets.specs.Listing.{Pair, listing}
use Rattle.tickets.specs.Ticket.{asked}
use Rattle.trees.specs.Example.{example}
use Rattle.trees.specs.Tree.{Label, Siblings, labels, Parent, Ancestor, Numbered, node_of, list_of, tree_words, AncestorOf}
use Rattle.trees.proofs.Accepted.{list_in_order, tree_taken, inside_ancestor, inside_range, directly_parent, parts_taken, listed_ancestor}
use Rattle.trees.proofs.Made.{example_numbered}

-- Of a tree that is numbered by order and size, and lent as a list of any document:
module _ (document : ℕ) (t : Siblings) (numbered : Numbered t) where
  -- The list has the nodes in their order.
  pub tree_is_in_order : EveryTwo (λ m n. m.start < n.start) (list_of document t)
  tree_is_in_order = list_in_order document t numbered

  -- If it has at most 4,096 nodes, it is accepted.
  pub tree_is_accepted : length (labels t) ≤ MOST_NODES → (check_words (tree_words document t)).answer ≡ TAKEN
  tree_is_accepted few = tree_taken document t numbered few

  -- One node is inside another exactly when that one is its ancestor.
  pub inside_exactly_below : (x y : Label) → In x (labels t) → In y (labels t)
      → (insideb (node_of document y) (node_of document x) ≡ true) ↔ Ancestor t x y
  inside_exactly_below x y i j = inside_ancestor document t numbered x y i j

  -- That is when y's order lies above x's, and no higher than x's order and size together: the
  -- paper's own test of an ancestor.
  pub inside_as_the_paper_tests : (x y : Label) → In x (labels t) → In y (labels t)
      → (insideb (node_of document y) (node_of document x) ≡ true) ↔ ((x.order < y.order) × (y.order ≤ x.order + x.size))
  inside_as_the_paper_tests x y i j = inside_range document t numbered x y i j

  -- Where each level is one above the parent's, one node is directly inside another exactly when
  -- that one is its parent.
  pub directly_exactly_a_child : ((x y : Label) → Parent x y t → y.level ≡ x.level + 1)
      → (x y : Label) → In x (labels t) → In y (labels t) → (directlyb (node_of document y) (node_of document x) ≡ true) ↔ Parent x y t
  directly_exactly_a_child even x y i j = directly_parent document t numbered even x y i j

  -- Any two lists of some of its nodes, in their order and with at most 4,096 each, are accepted
  -- together, however large the tree is.
  pub lists_of_a_tree_are_accepted : (ancestors descendants : List ℕ)
      → length ancestors % NODE_WORDS ≡ 0 → count ancestors ≤ MOST_NODES → Part (nodes ancestors) (list_of document t)
      → length descendants % NODE_WORDS ≡ 0 → count descendants ≤ MOST_NODES → Part (nodes descendants) (list_of document t)
      → (check_two ancestors descendants).answer ≡ TAKEN
  lists_of_a_tree_are_accepted ancestors descendants w f p v g q = parts_taken document t numbered ancestors descendants w f p v g q

  -- Of such lists exactly those pairs are listed in which the first node is an ancestor of the
  -- second.
  pub pairs_are_those_of_the_tree : (order : Order) (ancestors descendants : List ℕ)
      → Part (nodes ancestors) (list_of document t) → Part (nodes descendants) (list_of document t)
      → (p : Pair) → In p (listing (asked Inside order) (nodes ancestors) (nodes descendants))
      ↔ (In p.ancestor (nodes ancestors) × In p.descendant (nodes descendants) × AncestorOf document t p.ancestor p.descendant)
  pairs_are_those_of_the_tree order ancestors descendants a d p = listed_ancestor document t numbered order (nodes ancestors) (nodes descendants) a d p

-- The ranges and points of the scope's figures make such a tree.
pub example_is_numbered : Numbered example
example_is_numbered = example_numbered
