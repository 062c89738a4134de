-- docs/SCOPE.md, "Answer numbers", rows 1 to 8: the same rules, said by the nodes that draw an
-- answer and not by a check.
use Rattle.std.specs.Prelude.{ℕ, ◌%◌, ◌≤◌, ◌<◌, ◌≡◌, ◌⊎◌, true, false, List, ◌∷◌, length}
use Rattle.nodes.specs.declared.node.Node.{Node}
use Rattle.laws.specs.Choose.{In}
use Rattle.nodes.specs.Node.{insideb, apartb, afterb, MOST_LEVELS}
use Rattle.nodes.specs.Words.{NODE_WORDS, MOST_NODES, nodes, count}
use Rattle.lists.specs.Two.{nestedb}

-- n comes right after e in a list.
pub data Neighbours (e n : Node) : List Node → Type 0 where
  here : {x y : Node} {ns : List Node} → e ≡ x → n ≡ y → Neighbours e n (x ∷ y ∷ ns)
  later : {x : Node} {ns : List Node} → Neighbours e n ns → Neighbours e n (x ∷ ns)

-- n comes anywhere after e in a list.
pub data Follows (e n : Node) : List Node → Type 0 where
  here : {x : Node} {ns : List Node} → e ≡ x → In n ns → Follows e n (x ∷ ns)
  later : {x : Node} {ns : List Node} → Follows e n ns → Follows e n (x ∷ ns)

-- What refuses a list by itself, one case for each answer.
pub data Faulty (words : List ℕ) : Type 0 where
  -- RAGGED and LONG: the words don't make whole nodes, or there are more nodes than 4,096.
  ragged : (length words % NODE_WORDS ≡ 0 → ⊥) → Faulty words
  long : MOST_NODES < count words → Faulty words
  -- LEVEL and SPAN: a node's level is 0 or above 64, or it ends below its start.
  level : (n : Node) → In n (nodes words) → (n.level ≡ 0) ⊎ (MOST_LEVELS < n.level) → Faulty words
  span : (n : Node) → In n (nodes words) → n.end < n.start → Faulty words
  -- ORDER: of two neighbours the second doesn't stand after the first.
  order : (e n : Node) → Neighbours e n (nodes words) → afterb n e ≡ false → Faulty words
  -- CROSS and DEPTH: of two nodes of one document the earlier reaches to the later one. That one
  -- isn't inside it, or is inside without a higher level.
  cross : (e n : Node) → Follows e n (nodes words) → e.document ≡ n.document → n.start ≤ e.end → insideb n e ≡ false → Faulty words
  depth : (e n : Node) → Follows e n (nodes words) → insideb n e ≡ true → n.level ≤ e.level → Faulty words

-- JOINT: two nodes of one document, one from each list, differ, aren't apart, and neither is nested
-- in the other.
pub record AtOdds (xs ys : List Node) : Type 0 where
  pub x : Node
  pub y : Node
  pub x_in : In x xs
  pub y_in : In y ys
  pub document : x.document ≡ y.document
  pub not_same : x ≡ y → ⊥
  pub not_apart : apartb x y ≡ false
  pub not_nested : (nestedb x y ≡ false) × (nestedb y x ≡ false)
