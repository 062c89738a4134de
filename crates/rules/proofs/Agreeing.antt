-- Why it holds: A check, a listing and the links ask a rule about nodes of their own lists alone.
-- So two rules that agree on those nodes give the same.
-- What would break it: A definition that asked about any other node, such as the one of zeros past
-- the end of a list, would be caught here.
use mathlib.Core.Path.{◌≡◌, refl, ap}
use mathlib.Core.Bool.{Bool, not, ◌&&◌}
use mathlib.Core.List.{List, [], ◌∷◌}
use Prim.Native.Nat.{ℕ, suc, ◌<◌}
use lib.Dec.{ltb, eqb}
use lib.ListN.{length}
use Rattle.laws.specs.Choose.{All, In}
use Rattle.laws.proofs.Choices.{all_map, all_at, any_alike, each_in, keep_alike, map_alike}
use Rattle.nodes.specs.declared.node.Node.{Node}
use Rattle.nodes.specs.Node.{openb}
use Rattle.nodes.specs.Words.{node, nodes}
use Rattle.tickets.specs.declared.ticket.Relation.{Relation}
use Rattle.tickets.specs.declared.ticket.Relation.TheVariants.{Inside, Directly}
use Rattle.tickets.specs.Listing.{Pair, leaders, followers, every_pair}
use Rattle.tickets.specs.Ticket.{Asked}
use Rattle.tickets.proofs.Listed.{pair_sides}
use Rattle.forest.specs.Links.{up_to, first_of, node_in, indices}
use Rattle.forest.proofs.FirstAndLast.{all_up}
use Rattle.forest.proofs.Following.{first_alike}
use Rattle.rules.specs.Rule.{Rule}
use Rattle.rules.specs.Checks.{cross_by, depth_by, fault_by, check_from_by, check_nodes_by, check_words_by, nested_by, odds_by}
use Rattle.rules.specs.Forest.{innermost_by, parent_by, child_by, next_by, links_by}
use Rattle.rules.specs.Pairs.{related_by, listing_by}

module _ (r s : Rule) where
  -- Where the rules agree on two nodes both ways round, they also agree on whether these are at
  -- odds.
  pub odds_agree : (x y : Node) → r x y ≡ s x y → r y x ≡ s y x → odds_by r x y ≡ odds_by s x y
  unfolding odds_by nested_by
  odds_agree x y p q = rw (p, q) refl

  related_agrees : (relation : Relation) (p : Pair) → r p.descendant p.ancestor ≡ s p.descendant p.ancestor
      → related_by r relation p ≡ related_by s relation p
  unfolding related_by
  related_agrees Inside p h = h
  related_agrees Directly p h = rw h refl

  pub listing_agrees : (ask : Asked) (xs ys : List Node) → ((x y : Node) → In x xs → In y ys → r y x ≡ s y x)
      → listing_by r ask xs ys ≡ listing_by s ask xs ys
  unfolding listing_by
  listing_agrees ask xs ys agree =
      let every = every_pair ask.order (leaders ask.order xs ys) (followers ask.order xs ys) in
      keep_alike (related_by r ask.relation) (related_by s ask.relation) every (all_map (λ p m.
      let q = pair_sides ask.order xs ys p m in
      related_agrees ask.relation p (agree p.ancestor p.descendant q.0 q.1)) every (each_in every))

  -- The rules agree on all nodes of a list.
  module _ (ns : List Node) (agree : (x y : Node) → In x ns → In y ns → r y x ≡ s y x) where
    fault_agrees : (before : List Node) (n : Node) → All (λ e. In e ns) before → In n ns → fault_by r before n ≡ fault_by s before n
    unfolding fault_by cross_by depth_by
    fault_agrees before n h m =
        let cross = any_alike (λ e. openb n e && not (r n e)) (λ e. openb n e && not (s n e)) before
        (all_map (λ e k. ap (λ b. openb n e && not b) (agree e n k m)) before h) in
        let depth = any_alike (λ e. r n e && not (ltb e.level n.level)) (λ e. s n e && not (ltb e.level n.level)) before
        (all_map (λ e k. ap (λ b. b && not (ltb e.level n.level)) (agree e n k m)) before h) in
        rw (cross, depth) refl

    from_agrees : (before : List Node) (index : ℕ) (later : List Node) → All (λ e. In e ns) before → All (λ n. In n ns) later
        → check_from_by r before index later ≡ check_from_by s before index later
    unfolding check_from_by
    from_agrees before index [] h k = refl
    from_agrees before index (n ∷ later) h k =
        rw (fault_agrees before n h k.0, from_agrees (n ∷ before) (suc index) later (k.0, h) k.1) refl

    pub nodes_agree : check_nodes_by r ns ≡ check_nodes_by s ns
    unfolding check_nodes_by
    nodes_agree = from_agrees [] 0 ns tt (each_in ns)

    innermost_agrees : (n x : Node) → In n ns → In x ns → innermost_by r ns n x ≡ innermost_by s ns n x
    unfolding innermost_by
    innermost_agrees n x k m =
        let between = any_alike (λ z. r n z && r z x) (λ z. s n z && s z x) ns
        (all_map (λ z l. λ i. agree z n l k i && agree x z m l i) ns (each_in ns)) in
        rw (agree x n m k, between) refl

    stands : (i : ℕ) → i < length ns → In (node_in ns i) ns
    unfolding node_in
    stands i l = all_at (λ x. In x ns) ns i (node 0 0 0 0) l (each_in ns)

    -- Tests that agree on all indices of the list find the same one.
    found : (f g : ℕ → Bool) → ((j : ℕ) → j < length ns → f j ≡ g j) → first_of f (indices ns) ≡ first_of g (indices ns)
    unfolding indices
    found f g h = first_alike f g (up_to (length ns)) (all_up (λ j. f j ≡ g j) (length ns) h)

    parent_agrees : (i : ℕ) → i < length ns → parent_by r ns i ≡ parent_by s ns i
    unfolding parent_by
    parent_agrees i l = found _ _ (λ j m. innermost_agrees (node_in ns i) (node_in ns j) (stands i l) (stands j m))

    child_agrees : (i : ℕ) → child_by r ns i ≡ child_by s ns i
    unfolding child_by
    child_agrees i = found _ _ (λ j m. ap (λ p. eqb p i) (parent_agrees j m))

    next_agrees : (i : ℕ) → i < length ns → next_by r ns i ≡ next_by s ns i
    unfolding next_by
    next_agrees i l = found _ _ (λ j m. rw (parent_agrees j m, parent_agrees i l) refl)

    pub links_agree : links_by r ns ≡ links_by s ns
    unfolding links_by indices
    links_agree =
        map_alike _ _ (up_to (length ns)) (all_up _ (length ns) (λ i l. rw (parent_agrees i l, child_agrees i, next_agrees i l) refl))

  pub check_agrees : (words : List ℕ) → ((x y : Node) → In x (nodes words) → In y (nodes words) → r y x ≡ s y x)
      → check_words_by r words ≡ check_words_by s words
  unfolding check_words_by
  check_agrees words agree = rw (nodes_agree (nodes words) agree) refl
