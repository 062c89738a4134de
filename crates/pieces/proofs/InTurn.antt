-- Why it holds: The listing takes the leading list node by node, so a leading list cut into pieces
-- is listed piece by piece.
-- What would break it: A listing that looked back at an earlier leader would be caught here.
use Prim.Native.Nat.{ℕ}
use mathlib.Core.Path.{◌≡◌, refl, sym, ap, ◌∙◌}
use mathlib.Core.List.{List, [], ◌∷◌, ◌++◌, map, append-nil, append_assoc}
use Rattle.laws.specs.Choose.{All, keep}
use Rattle.laws.proofs.Choices.{keep_append}
use Rattle.nodes.specs.declared.node.Node.{Node}
use Rattle.nodes.specs.Words.{nodes}
use Rattle.tickets.specs.declared.ticket.Order.{Order}
use Rattle.tickets.specs.declared.ticket.Order.TheVariants.{Descendant, Ancestor}
use Rattle.tickets.specs.declared.ticket.Relation.{Relation}
use Rattle.tickets.specs.Listing.{askedb, leaders, followers, pair_of, every_pair, listing}
use Rattle.tickets.specs.Ticket.{Asked, asked}
use Rattle.pieces.specs.Pieces.{whole, WholeNodes, with_each, each_with_each, pairs_of, piece_pairs}
use Rattle.pieces.proofs.Cutting.{piece_nodes, nodes_whole}

-- The pairs of two lists of leaders in a row are those of the one and then those of the other.
every_append : (order : Order) (xs zs ys : List Node) → every_pair order (xs ++ zs) ys ≡ every_pair order xs ys ++ every_pair order zs ys
unfolding every_pair
every_append order [] zs ys = refl
every_append order (x ∷ xs) zs ys =
    let group = map (pair_of order x) ys in
    ap (λ ps. group ++ ps) (every_append order xs zs ys) ∙ sym (append_assoc group _ _)

module _ (relation : Relation) where
  abbrev by_descendants : Asked
  by_descendants = asked relation Descendant

  abbrev by_ancestors : Asked
  by_ancestors = asked relation Ancestor

  descendants_append : (as' ds es : List Node)
      → listing by_descendants as' (ds ++ es) ≡ listing by_descendants as' ds ++ listing by_descendants as' es
  unfolding listing leaders followers
  descendants_append as' ds es =
      ap (keep (askedb by_descendants)) (every_append Descendant ds es as')
      ∙ keep_append (askedb by_descendants) (every_pair Descendant ds as') (every_pair Descendant es as')

  ancestors_append : (as' bs ds : List Node)
      → listing by_ancestors (as' ++ bs) ds ≡ listing by_ancestors as' ds ++ listing by_ancestors bs ds
  unfolding listing leaders followers
  ancestors_append as' bs ds =
      ap (keep (askedb by_ancestors)) (every_append Ancestor as' bs ds)
      ∙ keep_append (askedb by_ancestors) (every_pair Ancestor as' ds) (every_pair Ancestor bs ds)

  nothing_led : (as' : List Node) → listing by_descendants as' [] ≡ []
  unfolding listing leaders followers every_pair keep
  nothing_led as' = refl

  nothing_leads : (ds : List Node) → listing by_ancestors [] ds ≡ []
  unfolding listing leaders followers every_pair keep
  nothing_leads ds = refl

  descendants_turn : (a : List ℕ) (ds : List (List ℕ)) → listing by_descendants (nodes a) (piece_nodes ds) ≡ with_each (pairs_of by_descendants) a ds
  unfolding with_each
  descendants_turn a [] = nothing_led (nodes a)
  descendants_turn a (d ∷ ds) =
      descendants_append (nodes a) (nodes d) (piece_nodes ds) ∙ ap (λ ps. listing by_descendants (nodes a) (nodes d) ++ ps) (descendants_turn a ds)

  ancestors_turn : (as' : List (List ℕ)) (d : List ℕ) → listing by_ancestors (piece_nodes as') (nodes d) ≡ piece_pairs by_ancestors as' (d ∷ [])
  unfolding with_each each_with_each
  ancestors_turn [] d = nothing_leads (nodes d)
  ancestors_turn (a ∷ as') d =
      ancestors_append (nodes a) (piece_nodes as') (nodes d)
      ∙ ap (λ ps. listing by_ancestors (nodes a) (nodes d) ++ ps) (ancestors_turn as' d)
      ∙ ap (λ ps. ps ++ piece_pairs by_ancestors as' (d ∷ [])) (sym (append-nil (listing by_ancestors (nodes a) (nodes d))))

  -- Where the descendants are cut, their listing in descendant order is that of the pieces in turn.
  pub in_descendant_order : (a : List ℕ) (ds : List (List ℕ)) → All WholeNodes ds
      → listing by_descendants (nodes a) (nodes (whole ds)) ≡ piece_pairs by_descendants (a ∷ []) ds
  unfolding each_with_each
  in_descendant_order a ds h =
      ap (listing by_descendants (nodes a)) (nodes_whole ds h)
      ∙ descendants_turn a ds
      ∙ sym (append-nil (with_each (pairs_of by_descendants) a ds))

  -- Where the ancestors are cut, their listing in ancestor order is that of the pieces in turn.
  pub in_ancestor_order : (as' : List (List ℕ)) (d : List ℕ) → All WholeNodes as'
      → listing by_ancestors (nodes (whole as')) (nodes d) ≡ piece_pairs by_ancestors as' (d ∷ [])
  in_ancestor_order as' d h = ap (λ xs. listing by_ancestors xs (nodes d)) (nodes_whole as' h) ∙ ancestors_turn as' d
