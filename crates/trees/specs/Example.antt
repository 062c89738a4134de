-- docs/SCOPE.md, "Figures to hold against it": the tree of the ranges and points that are numbered
-- by order and size.
use Rattle.trees.specs.Tree.{Siblings, label, none, sibling}

-- The tree: below the range 1 to 9 the point 2 and the ranges 4 to 6 and 7 to 9. Below these two
-- are the points 5 and 8.
abbrev pub example : Siblings
example =
    sibling (label 1 8 1)
    (sibling (label 2 0 2) none
    (sibling (label 4 2 2) (sibling (label 5 0 3) none none)
    (sibling (label 7 2 2) (sibling (label 8 0 3) none none) none)))
    none
