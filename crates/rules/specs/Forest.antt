-- docs/SCOPE.md, "The containment forest": the links of a list over any rule of what is inside.
-- They are those of `forest` with the rule for `insideb`.
use Rattle.std.specs.Prelude.{ℕ, Bool, not, ◌&&◌, List, map, ltb, eqb}
use Rattle.laws.specs.Choose.{any}
use Rattle.nodes.specs.declared.node.Node.{Node}
use Rattle.forest.specs.declared.link.Link.{Link}
use Rattle.forest.specs.Links.{first_of, node_in, indices}
use Rattle.rules.specs.Rule.{Rule}

module _ (inside : Rule) (ns : List Node) where
  -- x is the innermost node that contains n.
  unfoldable pub innermost_by : Node → Node → Bool
  innermost_by n x = inside n x && not (any (λ z. inside n z && inside z x) ns)

  -- The index of a node's parent, of its first child and of its next sibling.
  unfoldable pub parent_by : ℕ → ℕ
  parent_by i = first_of (λ j. innermost_by (node_in ns i) (node_in ns j)) (indices ns)

  unfoldable pub child_by : ℕ → ℕ
  child_by i = first_of (λ j. eqb (parent_by j) i) (indices ns)

  unfoldable pub next_by : ℕ → ℕ
  next_by i = first_of (λ j. ltb i j && (eqb (node_in ns j).document (node_in ns i).document && eqb (parent_by j) (parent_by i))) (indices ns)

  -- The links of all nodes.
  unfoldable pub links_by : List Link
  links_by = map (λ i. record { parent = parent_by i; child = child_by i; next = next_by i }) (indices ns)
