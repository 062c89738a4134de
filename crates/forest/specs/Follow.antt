-- docs/SCOPE.md, "The containment forest": the nodes that are met by following `next` from a node.
use Rattle.std.specs.Prelude.{ℕ, zero, suc, cond, List, [], ◌∷◌, eqb}
use Rattle.nodes.specs.declared.node.Node.{Node}
use Rattle.forest.specs.Links.{NONE, next_of}

-- The indices met on the way from the index `i` along `next`, until there is none, in at most
-- `steps` steps.
unfoldable pub followed : List Node → ℕ → ℕ → List ℕ
followed ns zero i = []
followed ns (suc steps) i = cond (eqb i NONE) [] (i ∷ followed ns steps (next_of ns i))
