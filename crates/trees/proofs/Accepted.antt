-- Why it holds: Of two nodes in preorder the first is an ancestor of the second or ends before it.
-- An ancestor has the other inside it, with a higher level. A node that ends before is apart.
-- What would break it: A rule that refused a child with its parent's end would be caught here. So
-- would an `insideb` that isn't the paper's test.
use mathlib.Core.Path.{◌≡◌, refl, sym, subst}
use mathlib.Core.Logic.{◌↔◌, ⊎_elim}
use mathlib.Core.Bool.{true}
use mathlib.Core.List.{List}
use Prim.Native.Nat.{ℕ, ◌+◌, ◌%◌, ◌≤◌, ◌<◌}
use native.Mathlib.Omega.{arith}
use lib.ListN.{length, length-map}
use Rattle.answers.specs.Answer.{TAKEN}
use Rattle.laws.specs.Choose.{All, EveryTwo, In, Part}
use Rattle.laws.proofs.Choices.{all_in, all_map, all_mapped, each_in, every_two_map, every_two_mapped}
use Rattle.laws.proofs.Parts.{part_all}
use Rattle.nodes.specs.declared.node.Node.{Node}
use Rattle.nodes.specs.Node.{insideb, directlyb}
use Rattle.nodes.specs.Words.{NODE_WORDS, MOST_NODES, nodes, count}
use Rattle.nodes.proofs.NodeLaws.{within, inside_make, directly_inside, directly_make, apart_ahead, after_start}
use Rattle.lists.specs.Check.{check_words}
use Rattle.lists.specs.Two.{check_two}
use Rattle.lists.proofs.Faults.{Sound}
use Rattle.lists.proofs.Leaving.{some_two_taken}
use Rattle.lists.proofs.Taken.{Fine, nested_make, agree_apart, agree_nested, sound_taken}
use Rattle.tickets.specs.declared.ticket.Order.{Order}
use Rattle.tickets.specs.declared.ticket.Relation.TheVariants.{Inside}
use Rattle.tickets.specs.Listing.{Pair, relatedb, listing}
use Rattle.tickets.specs.Ticket.{asked}
use Rattle.tickets.proofs.Listed.{listed_iff}
use Rattle.trees.specs.Tree.{Label, Siblings, labels, Parent, Ancestor, Numbered, node_of, list_of, tree_words, AncestorOf}
use Rattle.trees.specs.Tree.Ancestor.{parent, further}
use Rattle.trees.proofs.Ordered.{Placed, ancestor_below, in_order, placed, placed_order, placed_in}

module _ (document : ℕ) (t : Siblings) (numbered : Numbered t) where
  ancestor_inside : {x y : Label} → Ancestor t x y → insideb (node_of document y) (node_of document x) ≡ true
  ancestor_inside {x} {y} a =
      let b = ancestor_below t numbered a in
      inside_make (node_of document y) (node_of document x) refl b.order b.end

  placed_fine : (x y : Label) → Placed t x y → Fine (node_of document x) (node_of document y)
  placed_fine x y h =
      let e = node_of document x in
      let n = node_of document y in
      record {
        after = after_start n e refl (placed_order t numbered x y h);
        agree = λ d. ⊎_elim (λ a. agree_nested e n (nested_make n e (ancestor_inside a) (ancestor_below t numbered a).level))
            (λ p. agree_apart e n (apart_ahead e n p)) h;
      }

  label_sound : (x : Label) → In x (labels t) → Sound (node_of document x)
  label_sound x i = let l = numbered.levels x i in record { lowest = l.0; highest = l.1; span = omega arith }

  all_sound : All Sound (list_of document t)
  unfolding list_of
  all_sound = all_mapped (node_of document) Sound (labels t) (all_map label_sound (labels t) (each_in (labels t)))

  all_fine : EveryTwo Fine (list_of document t)
  unfolding list_of
  all_fine = every_two_mapped (node_of document) Fine (labels t) (every_two_map placed_fine (labels t) (placed t numbered))

  -- The list has the nodes in their order.
  pub list_in_order : EveryTwo (λ m n. m.start < n.start) (list_of document t)
  unfolding list_of
  list_in_order = every_two_mapped (node_of document) (λ m n. m.start < n.start) (labels t) (in_order t numbered)

  -- A numbered tree's list is accepted.
  pub tree_taken : length (labels t) ≤ MOST_NODES → (check_words (tree_words document t)).answer ≡ TAKEN
  unfolding tree_words list_of
  tree_taken few = sound_taken (list_of document t) (omega (arith, length-map (labels t) (node_of document))) all_sound all_fine

  -- And any two lists of its nodes, each in order, are accepted together, however large it is.
  pub parts_taken : (as' ds : List ℕ) → length as' % NODE_WORDS ≡ 0 → count as' ≤ MOST_NODES → Part (nodes as') (list_of document t)
      → length ds % NODE_WORDS ≡ 0 → count ds ≤ MOST_NODES → Part (nodes ds) (list_of document t) → (check_two as' ds).answer ≡ TAKEN
  parts_taken as' ds w f p v g q = some_two_taken (list_of document t) all_sound all_fine as' ds w f p v g q

  module _ (x y : Label) (x_in : In x (labels t)) (y_in : In y (labels t)) where
    -- A node of the tree is inside another exactly when that one is its ancestor.
    pub inside_ancestor : (insideb (node_of document y) (node_of document x) ≡ true) ↔ Ancestor t x y
    inside_ancestor = (
      λ h.
          let w = within (node_of document y) (node_of document x) h in
          ⊎_elim (λ a. a) (λ e. absurd (omega arith)) (placed_in t numbered x y x_in y_in w.start),
      ancestor_inside,
    )

    -- And exactly when its order is above the other's, and at most the other's order and size
    -- together, as the paper says.
    pub inside_range : (insideb (node_of document y) (node_of document x) ≡ true) ↔ ((x.order < y.order) × (y.order ≤ x.order + x.size))
    inside_range = (
      λ h. let w = within (node_of document y) (node_of document x) h in (w.start, omega arith),
      λ h. ⊎_elim ancestor_inside (λ e. absurd (omega arith)) (placed_in t numbered x y x_in y_in h.0),
    )

  -- Where each level is one above its parent's, a node is directly inside exactly its parent.
  module _ (even : (x y : Label) → Parent x y t → y.level ≡ x.level + 1) where
    child_directly : (x y : Label) → Parent x y t → directlyb (node_of document y) (node_of document x) ≡ true
    child_directly x y p = directly_make (node_of document y) (node_of document x) (ancestor_inside (parent p)) (even x y p)

    -- An ancestor one level above is the parent.
    one_above : {x y : Label} → Ancestor t x y → y.level ≡ x.level + 1 → Parent x y t
    one_above (parent p) l = p
    one_above (further a p) l = let b = ancestor_below t numbered a in absurd (omega (arith, even _ _ p))

    pub directly_parent : (x y : Label) → In x (labels t) → In y (labels t)
        → (directlyb (node_of document y) (node_of document x) ≡ true) ↔ Parent x y t
    directly_parent x y i j = (
      λ h. let d = directly_inside (node_of document y) (node_of document x) h in one_above ((inside_ancestor x y i j).0 d.0) d.1,
      child_directly x y,
    )

  -- The node n is that of a label of the tree.
  record Labelled (n : Node) : Type 0 where
    label : Label
    label_in : In label (labels t)
    node_is : n ≡ node_of document label

  -- Every node of a part is.
  part_labelled : (ns : List Node) → Part ns (list_of document t) → {n : Node} → In n ns → Labelled n
  unfolding list_of
  part_labelled ns p m =
      all_in Labelled ns
      (part_all Labelled p
      (all_mapped (node_of document) Labelled (labels t) (all_map (λ x i. record { label = x; label_in = i; node_is = refl }) (labels t) (each_in (labels t))))) m

  -- Of two parts, the pairs listed are exactly those of a node and one of its ancestors.
  pub listed_ancestor : (order : Order) (as' ds : List Node) → Part as' (list_of document t) → Part ds (list_of document t) → (p : Pair)
      → In p (listing (asked Inside order) as' ds) ↔ (In p.ancestor as' × In p.descendant ds × AncestorOf document t p.ancestor p.descendant)
  unfolding relatedb
  listed_ancestor order as' ds a d p =
      let listed = listed_iff (asked Inside order) as' ds p in (
        λ m.
            let h = listed.0 m in
            let x = part_labelled as' a h.0 in
            let y = part_labelled ds d h.1 in (
              h.0,
              h.1,
              record {
                x = x.label;
                y = y.label;
                ancestor_is = x.node_is;
                descendant_is = y.node_is;
                ancestor = (inside_ancestor x.label y.label x.label_in y.label_in).0
                    (subst (λ n. insideb n (node_of document x.label) ≡ true) y.node_is (subst (λ n. insideb p.descendant n ≡ true) x.node_is h.2));
              },
            ),
        λ h.
            let r = h.2 in
            listed.1 (
              h.0,
              h.1,
              subst (λ n. insideb n p.ancestor ≡ true) (sym r.descendant_is)
                  (subst (λ n. insideb (node_of document r.y) n ≡ true) (sym r.ancestor_is) (ancestor_inside r.ancestor)),
            ),
      )
