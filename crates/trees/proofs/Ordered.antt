-- Why it holds: Orders rise from parent to child, and a sibling begins after the end of the one
-- before it. So of two nodes in preorder the first is an ancestor of the second or ends before it.
-- What would break it: A condition left out, or a preorder that visits the siblings after a node
-- before its children, would be caught here.
use mathlib.Core.Path.{subst}
use mathlib.Core.Logic.{◌⊎◌, inl, inr, ⊎_elim}
use Prim.Native.Nat.{◌+◌, ◌≤◌, ◌<◌}
use native.Mathlib.Nat.{lt_irrefl}
use native.Mathlib.Omega.{arith}
use Rattle.laws.specs.Choose.{All, EveryTwo, In}
use Rattle.laws.proofs.Choices.{all_map, all_append, each_in, every_two_map, every_two_append, every_two_in}
use Rattle.trees.specs.Tree.{Label, Siblings, none, sibling, tops, labels, Parent, Precedes, Ancestor, Numbered}
use Rattle.trees.specs.Tree.Ancestor.{parent, further}
use Rattle.trees.specs.Tree.Parent.{here, below, beside}
use Rattle.trees.specs.Tree.Precedes.{here as first-here, below as first_below, beside as first-beside}

-- What the numbers of a node say of one below it.
pub record Below (x y : Label) : Type 0 where
  pub order : x.order < y.order
  pub end : y.order + y.size ≤ x.order + x.size
  pub level : x.level < y.level

-- The siblings s stand somewhere in t: parents and siblings among them are such in t.
record Among (s t : Siblings) : Type 0 where
  parents : (x y : Label) → Parent x y s → Parent x y t
  siblings : (x y : Label) → Precedes x y s → Precedes x y t

module _ {x : Label} {children later t : Siblings} (among : Among (sibling x children later) t) where
  children_among : Among children t
  children_among = record {
    parents = λ y z p. among.parents y z (below p);
    siblings = λ y z p. among.siblings y z (first_below p);
  }

  later_among : Among later t
  later_among = record {
    parents = λ y z p. among.parents y z (beside p);
    siblings = λ y z p. among.siblings y z (first-beside p);
  }

-- What holds of the siblings themselves, and of each child if of its parent, holds of all labels.
all_labels : (P : Label → Type 0) (s : Siblings) → ((x y : Label) → Parent x y s → P x → P y) → All P (tops s) → All P (labels s)
unfolding tops labels
all_labels P none f h = tt
all_labels P (sibling z children later) f h = (
  h.0,
  all_append P (labels children) (labels later)
      (all_labels P children (λ x y p. f x y (below p)) (all_map (λ y m. f z y (here m) h.0) (tops children) (each_in (tops children))))
      (all_labels P later (λ x y p. f x y (beside p)) h.1),
)

-- How two nodes lie, y the later one in preorder: x is an ancestor of y, or x ends before y.
abbrev pub Placed : Siblings → Label → Label → Type 0
Placed t x y = Ancestor t x y ⊎ (x.order + x.size < y.order)

module _ (t : Siblings) (numbered : Numbered t) where
  pub ancestor_below : {x y : Label} → Ancestor t x y → Below x y
  ancestor_below (parent p) = let h = numbered.parents _ _ p in record { order = h.0; end = h.1; level = numbered.rising _ _ p }
  ancestor_below (further a p) =
      let b = ancestor_below a in
      let h = numbered.parents _ _ p in
      let l = numbered.rising _ _ p in
      record { order = omega arith; end = omega arith; level = omega arith }

  -- A node is an ancestor of all that stand below it.
  all_below : (x : Label) (children later : Siblings) → Among (sibling x children later) t → All (Ancestor t x) (labels children)
  all_below x children later among =
      all_labels (Ancestor t x) children (λ y z p a. further a (among.parents y z (below p)))
      (all_map (λ y m. parent (among.parents x y (here m))) (tops children) (each_in (tops children)))

  -- It ends before each sibling after it, and before all that stand below that one.
  all_beyond : (x : Label) (children later : Siblings) → Among (sibling x children later) t
      → All (λ y. x.order + x.size < y.order) (labels later)
  all_beyond x children later among =
      all_labels (λ y. x.order + x.size < y.order) later
      (λ y z p h. let q = numbered.parents y z (among.parents y z (beside p)) in omega arith)
      (all_map (λ y m. numbered.siblings x y (among.siblings x y (first-here m))) (tops later) (each_in (tops later)))

  all_placed : (s : Siblings) → Among s t → EveryTwo (Placed t) (labels s)
  unfolding labels
  all_placed none among = tt
  all_placed (sibling x children later) among =
      let under = all_below x children later among in
      let beyond = all_beyond x children later among in (
        all_append (Placed t x) (labels children) (labels later) (all_map (λ y a. inl a) (labels children) under)
            (all_map (λ y h. inr h) (labels later) beyond),
        every_two_append (Placed t) (labels children) (labels later) (all_placed children (children_among among))
            (all_placed later (later_among among))
            (all_map (λ y a. let b = ancestor_below a in all_map (λ z h. inr (omega arith)) (labels later) beyond) (labels children) under),
      )

  -- So lie each node of the whole and every later one.
  pub placed : EveryTwo (Placed t) (labels t)
  placed = all_placed t (record { parents = λ x y p. p; siblings = λ x y p. p })

  pub placed_order : (x y : Label) → Placed t x y → x.order < y.order
  placed_order x y h = ⊎_elim (λ a. (ancestor_below a).order) (λ e. omega arith) h

  -- The preorder is the list in order.
  pub in_order : EveryTwo (λ x y. x.order < y.order) (labels t)
  in_order = every_two_map placed_order (labels t) placed

  -- Of two nodes of the tree, the one with the greater order comes later in preorder.
  pub placed_in : (x y : Label) → In x (labels t) → In y (labels t) → x.order < y.order → Placed t x y
  placed_in x y i j h =
      elim (every_two_in (Placed t) (labels t) x y placed i j) [
        | inl e ↦ absurd (lt_irrefl _ (subst (λ z. z.order < y.order) e h))
        | inr p ↦ ⊎_elim (λ q. q) (λ q. let o = placed_order y x q in absurd (omega arith)) p
      ]
