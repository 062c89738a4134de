-- Why it holds: A merge looks at the two heads only, so each of its tests settles the next node and
-- what is left to merge.
-- What would break it: A merge that dropped a node, or took the later head first, would be caught
-- here.
use mathlib.Core.Path.{◌≡◌, refl}
use mathlib.Core.Bool.{true, false}
use mathlib.Core.List.{List, [], ◌∷◌}
use Rattle.nodes.specs.declared.node.Node.{Node}
use Rattle.nodes.specs.Node.{afterb, sameb}
use Rattle.lists.specs.Private.Merge.{merge_into, merge}

pub merge_nil : (xs : List Node) → merge xs [] ≡ xs
unfolding merge merge_into
merge_nil [] = refl
merge_nil (x ∷ xs) = refl

module _ (x y : Node) (xs ys : List Node) where
  -- The first list's head stands before the second's and is taken.
  pub merge_left : afterb y x ≡ true → merge (x ∷ xs) (y ∷ ys) ≡ x ∷ merge xs (y ∷ ys)
  unfolding merge merge_into
  merge_left h = rw h

  -- A node of both lists is taken once.
  pub merge_both : afterb y x ≡ false → sameb x y ≡ true → merge (x ∷ xs) (y ∷ ys) ≡ x ∷ merge xs ys
  unfolding merge merge_into
  merge_both h s = rw (h, s)

  -- Otherwise the second list's head is taken.
  pub merge_right : afterb y x ≡ false → sameb x y ≡ false → merge (x ∷ xs) (y ∷ ys) ≡ y ∷ merge (x ∷ xs) ys
  unfolding merge merge_into
  merge_right h s = rw (h, s)
