-- Why it holds: A tree is numbered where each node's numbers fit those of its children and of the
-- siblings after it. So a tree is tested node by node.
-- What would break it: Rules that no tree obeys would be caught here, since the example obeys them.
use mathlib.Core.List.Memᴰ
use Prim.Native.Nat.{◌+◌, ◌≤◌, ◌<◌}
use native.Mathlib.Omega.{arith}
use Rattle.laws.specs.Choose.{All}
use Rattle.laws.proofs.Choices.{all_in, all_append, all_map, each_in}
use Rattle.nodes.specs.Node.{MOST_LEVELS}
use Rattle.trees.specs.Example.{example}
use Rattle.trees.specs.Tree.{Label, Siblings, none, sibling, tops, labels, Parent, Precedes, Numbered}
use Rattle.trees.specs.Tree.Parent.{here, below, beside}
use Rattle.trees.specs.Tree.Precedes.{here as first-here, below as first_below, beside as first-beside}
use Rattle.trees.proofs.Ordered.{Below}

-- A level that this library takes.
abbrev Level : Label → Type 0
Level x = (1 ≤ x.level) × (x.level ≤ MOST_LEVELS)

none_numbered : Numbered none
unfolding labels
none_numbered = record {
  parents = λ x y p. elim p [ ];
  siblings = λ x y p. elim p [ ];
  rising = λ x y p. elim p [ ];
  levels = λ x m. absurd (Memᴰ.not-nil m);
}

module _ (x : Label) {children later : Siblings} (inner : Numbered children) (beyond : Numbered later)
    (fits : All (Below x) (tops children)) (ahead : All (λ y. x.order + x.size < y.order) (tops later)) (level : Level x) where
  child_below : (y z : Label) → Parent y z (sibling x children later) → Below y z
  child_below y z (here m) = all_in (Below x) (tops children) fits m
  child_below y z (below p) = record { order = (inner.parents y z p).0; end = (inner.parents y z p).1; level = inner.rising y z p }
  child_below y z (beside p) = record { order = (beyond.parents y z p).0; end = (beyond.parents y z p).1; level = beyond.rising y z p }

  sibling_ahead : (y z : Label) → Precedes y z (sibling x children later) → y.order + y.size < z.order
  sibling_ahead y z (first-here m) = all_in (λ w. x.order + x.size < w.order) (tops later) ahead m
  sibling_ahead y z (first_below p) = inner.siblings y z p
  sibling_ahead y z (first-beside p) = beyond.siblings y z p

  all_levels : All Level (labels (sibling x children later))
  unfolding labels
  all_levels = (
    level,
    all_append Level (labels children) (labels later) (all_map inner.levels (labels children) (each_in (labels children)))
        (all_map beyond.levels (labels later) (each_in (labels later))),
  )

  -- A node with its children and the siblings after it is numbered where its own numbers fit.
  sibling_numbered : Numbered (sibling x children later)
  sibling_numbered = record {
    parents = λ y z p. ((child_below y z p).order, (child_below y z p).end);
    siblings = sibling_ahead;
    rising = λ y z p. (child_below y z p).level;
    levels = λ y m. all_in Level (labels (sibling x children later)) all_levels m;
  }

-- A node without children.
leaf_numbered : (x : Label) {later : Siblings} → Numbered later → All (λ y. x.order + x.size < y.order) (tops later) → Level x
    → Numbered (sibling x none later)
unfolding tops
leaf_numbered x beyond ahead level = sibling_numbered x none_numbered beyond tt ahead level

-- The example is numbered by order and size.
pub example_numbered : Numbered example
unfolding tops
example_numbered =
    sibling_numbered _
    (leaf_numbered _
    (sibling_numbered _ (leaf_numbered _ none_numbered tt (omega arith, omega arith))
    (sibling_numbered _ (leaf_numbered _ none_numbered tt (omega arith, omega arith)) none_numbered
    (record { order = omega arith; end = omega arith; level = omega arith }, tt) tt (omega arith, omega arith))
    (record { order = omega arith; end = omega arith; level = omega arith }, tt) (omega arith, tt) (omega arith, omega arith))
    (omega arith, (omega arith, tt)) (omega arith, omega arith))
    none_numbered (
      record { order = omega arith; end = omega arith; level = omega arith },
      (
        record { order = omega arith; end = omega arith; level = omega arith },
        (record { order = omega arith; end = omega arith; level = omega arith }, tt),
      ),
    )
    tt (omega arith, omega arith)
