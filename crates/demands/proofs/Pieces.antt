-- The rule for lists of more nodes than one call takes, which are cut into pieces. Each clause is a
-- comment in words, and below it the theorem that says it. `whole` is the list
-- before it was cut. A rule that lost a pair or passed a fault would be caught here.
use Prim.Native.Nat.{ℕ, ◌≤◌, ◌<◌}
use mathlib.Core.Path.{◌≡◌}
use mathlib.Core.Logic.{◌↔◌, ◌⊎◌}
use mathlib.Core.Bool.{true, false}
use mathlib.Core.List.{List, [], ◌∷◌}
use lib.ListN.{length, take}
use Rattle.laws.specs.Choose.{All, EveryTwo, In}
use Rattle.nodes.specs.Words.{nodes}
use Rattle.lists.specs.Two.{jointb}
use Rattle.paging.specs.Page.{Spot}
use Rattle.tickets.specs.declared.ticket.Order.TheVariants.{Descendant, Ancestor}
use Rattle.tickets.specs.declared.ticket.Relation.{Relation}
use Rattle.tickets.specs.declared.ticket.Ticket.{Ticket}
use Rattle.tickets.specs.Listing.{Pair}
use Rattle.tickets.specs.PairWords.{room}
use Rattle.tickets.specs.Ticket.{Asked, asked, asked_by, spot_of}
use Rattle.pairs.specs.Calls.{Call, AcceptedCall, SameStarts, answer, shown}
use Rattle.pieces.specs.Checks.{DrawsNone, Fits, HasNode, Taken, TakenTogether, StandsAfter, LowerDocuments, OtherDocuments}
use Rattle.pieces.specs.Checks.{first_node, last_node, StartsAfter, EachNext, PiecesPass}
use Rattle.pieces.specs.Pieces.{whole, WholeNodes, pairs_of, piece_pairs, page_for, piece_pages, MergedFrom, is_last, in_turn}
use Rattle.pieces.proofs.Agreeing.{whole_agrees, both_checked}
use Rattle.pieces.proofs.Apart.{nothing_listed, nothing_odd, others_taken, lower_taken, lower_after}
use Rattle.pieces.proofs.Borders.{documents_part, ranges_part, borders_enough, borders_checked}
use Rattle.pieces.proofs.Checking.{whole_checked}
use Rattle.pieces.proofs.InTurn.{in_descendant_order, in_ancestor_order}
use Rattle.pieces.proofs.LastPages.{call_last, pages_last}
use Rattle.pieces.proofs.Meeting.{whole_pairs_lem}
use Rattle.pieces.proofs.MergedInTurn.{descendants_merged, ancestors_merged}
use Rattle.pieces.proofs.Once.{none_twice}
use Rattle.pieces.proofs.Pages.{call_page, page_found, pages_merged}
use Rattle.pieces.proofs.PagesInTurn.{descendants_in_turn, ancestors_in_turn}

-- The pairs. Ancestors and descendants are cut into pieces, and no cut goes through a node.
module _ (ask : Asked) (as' ds : List (List ℕ)) (no_ancestor_cut : All WholeNodes as') (no_descendant_cut : All WholeNodes ds) where
  -- the pairs of every ancestor piece with every descendant piece are the pairs of the whole lists:
  -- none is lost and none is added
  pub pairs_of_every_two_pieces : (p : Pair) → In p (pairs_of ask (whole as') (whole ds)) ↔ In p (piece_pairs ask as' ds)
  pairs_of_every_two_pieces p = whole_pairs_lem ask as' ds no_ancestor_cut no_descendant_cut p

  -- where the whole lists draw none of the answers 3 to 7,
  module _ (ancestors_good : DrawsNone (whole as')) (descendants_good : DrawsNone (whole ds)) where
    -- no pair comes twice, nor do two with the same document and starts,
    pub no_pair_of_pieces_twice : EveryTwo (λ p q. SameStarts p q → ⊥) (piece_pairs ask as' ds)
    no_pair_of_pieces_twice = none_twice ask as' ds no_ancestor_cut no_descendant_cut ancestors_good descendants_good

    -- each pair among the first n of the whole listing past a place is among the first n of its own
    -- two pieces past that place,
    pub page_lies_on_the_pages_of_pieces : (place : Spot) (n : ℕ)
        → All (λ p. In p (piece_pages ask place n as' ds)) (page_for ask place n (whole as') (whole ds))
    page_lies_on_the_pages_of_pieces place n = page_found ask place n as' ds no_ancestor_cut no_descendant_cut ancestors_good descendants_good

    -- and where the pieces' pages are merged by key into one list,
    module _ (place : Spot) (n : ℕ) (merged : List Pair) (by_key : MergedFrom ask merged (piece_pages ask place n as' ds)) where
      -- its first n pairs are the page of the whole lists,
      pub merged_pages_are_the_page : take n merged ≡ page_for ask place n (whole as') (whole ds)
      merged_pages_are_the_page =
          pages_merged ask place n as' ds no_ancestor_cut no_descendant_cut ancestors_good descendants_good merged by_key.0 by_key.1

      -- and that page is the last exactly when the page of any two pieces is their last, and the
      -- merged list has no more than n pairs
      pub last_page_of_pieces : (is_last ask place n (whole as') (whole ds) ≡ true)
          ↔ (All (λ a. All (λ d. is_last ask place n a d ≡ true) ds) as' × (length merged ≤ n))
      last_page_of_pieces =
          pages_last ask place n as' ds no_ancestor_cut no_descendant_cut ancestors_good descendants_good merged by_key.0 by_key.1

-- The page of two pieces is what an accepted call on them hands out, and the call says done exactly
-- when that page is their last.
pub page_of_two_pieces : (t : Ticket) (c : Call) → AcceptedCall c
    → let n = room c.out in
    let place = spot_of t.place in
    (shown t c ≡ page_for (asked_by t) place n c.ancestors c.descendants)
    × ((answer t c).done ≡ is_last (asked_by t) place n c.ancestors c.descendants)
page_of_two_pieces t c a = (call_page t c a, call_last t c a)

-- The order. Where only the list that leads in the order is cut, the pieces' listings one after the
-- other are the listing of the whole:
module _ (relation : Relation) where
  -- in descendant order the descendants lead,
  pub descendants_piece_by_piece : (ancestors : List ℕ) (ds : List (List ℕ)) → All WholeNodes ds
      → pairs_of (asked relation Descendant) ancestors (whole ds) ≡ piece_pairs (asked relation Descendant) (ancestors ∷ []) ds
  descendants_piece_by_piece ancestors ds no_cut = in_descendant_order relation ancestors ds no_cut

  -- and in ancestor order the ancestors
  pub ancestors_piece_by_piece : (as' : List (List ℕ)) (descendants : List ℕ) → All WholeNodes as'
      → pairs_of (asked relation Ancestor) (whole as') descendants ≡ piece_pairs (asked relation Ancestor) as' (descendants ∷ [])
  ancestors_piece_by_piece as' descendants no_cut = in_ancestor_order relation as' descendants no_cut

  -- Take pairs from the pieces in turn until there are n: these are the first n pairs of the whole
  -- past one place,
  module _ (place : Spot) (n : ℕ) where
    -- in descendant order of the descendants' pieces,
    pub descendants_page_by_page : (ancestors : List ℕ) (ds : List (List ℕ)) → All WholeNodes ds
        → let ask = asked relation Descendant in
        page_for ask place n ancestors (whole ds) ≡ in_turn (λ k d. page_for ask place k ancestors d) n ds
    descendants_page_by_page ancestors ds no_cut = descendants_in_turn relation place n ancestors ds no_cut

    -- and in ancestor order of the ancestors'
    pub ancestors_page_by_page : (as' : List (List ℕ)) (descendants : List ℕ) → All WholeNodes as'
        → let ask = asked relation Ancestor in
        page_for ask place n (whole as') descendants ≡ in_turn (λ k a. page_for ask place k a descendants) n as'
    ancestors_page_by_page as' descendants no_cut = ancestors_in_turn relation place n as' descendants no_cut

    -- Both lists may be cut for that. Where the pages of each leading piece with every piece of the
    -- other list are merged by key, the same holds of what is merged,
    module _ (as' ds : List (List ℕ)) (no_ancestor_cut : All WholeNodes as') (no_descendant_cut : All WholeNodes ds)
        (ancestors_good : DrawsNone (whole as')) (descendants_good : DrawsNone (whole ds)) (merged : ℕ → List ℕ → List Pair) where
      -- in descendant order,
      pub descendants_merged_in_turn : let ask = asked relation Descendant in
          All (λ d. (k : ℕ) → MergedFrom ask (merged k d) (piece_pages ask place k as' (d ∷ []))) ds
          → in_turn (λ k d. take k (merged k d)) n ds ≡ page_for ask place n (whole as') (whole ds)
      descendants_merged_in_turn are-merged =
          descendants_merged relation place n as' ds no_ancestor_cut no_descendant_cut ancestors_good descendants_good merged are-merged

      -- and in ancestor order
      pub ancestors_merged_in_turn : let ask = asked relation Ancestor in
          All (λ a. (k : ℕ) → MergedFrom ask (merged k a) (piece_pages ask place k (a ∷ []) ds)) as'
          → in_turn (λ k a. take k (merged k a)) n as' ≡ page_for ask place n (whole as') (whole ds)
      ancestors_merged_in_turn are-merged =
          ancestors_merged relation place n as' ds no_ancestor_cut no_descendant_cut ancestors_good descendants_good merged are-merged

-- The check of one list. Each piece has whole nodes, and no more of them than a call takes.
module _ (ws : List (List ℕ)) (fit : All Fits ws) where
  -- The whole list draws none of the answers 3 to 7 exactly when each piece is taken and any two
  -- pass. Two pass if they are taken together and the later one's nodes stand after the earlier's.
  pub pieces_checked : DrawsNone (whole ws) ↔ (All Taken ws × EveryTwo (λ v w. TakenTogether v w × StandsAfter w v) ws)
  pieces_checked = whole_checked ws fit

  -- The borders. Where each piece has a node,
  module _ (nodes_there : All HasNode ws) where
    -- it is enough for the order that the first node of each piece stands after the last node of
    -- the piece before it,
    pub borders_are_enough : All Taken ws → EveryTwo (λ v w. StandsAfter w v) ws ↔ EachNext (λ v w. StartsAfter w v) ws
    borders_are_enough taken = borders_enough ws taken nodes_there

    -- and two pieces need no check together where the earlier one ends in a lower document than the
    -- later one starts in
    pub pieces_checked_by_borders : DrawsNone (whole ws) ↔ (All Taken ws
        × EachNext (λ v w. StartsAfter w v) ws
        × EveryTwo (λ v w. ((last_node v).document < (first_node w).document) ⊎ TakenTogether v w) ws)
    pieces_checked_by_borders = borders_checked ws fit nodes_there

-- Documents. A cut between two documents needs no check:
module _ (v w : List ℕ) (v_taken : Taken v) (w_taken : Taken w) where
  -- two taken pieces are taken together, the later after the earlier, where every node of v is of a
  -- lower document than every node of w,
  pub lower_documents_need_no_check : LowerDocuments v w → TakenTogether v w × StandsAfter w v
  lower_documents_need_no_check lower = (lower_taken v w lower v_taken w_taken, lower_after v w lower)

  -- and where each has a node, the last node of v and the first node of w show it
  pub borders_tell_the_documents : HasNode v → HasNode w → (last_node v).document < (first_node w).document → LowerDocuments v w
  borders_tell_the_documents v-has-node w-has-node lower = documents_part v w v_taken w_taken v-has-node w-has-node lower

-- Two lists, both cut into pieces.
module _ (as' ds : List (List ℕ)) where
  -- No two nodes of the whole lists are at odds exactly when no node of an ancestor piece is at
  -- odds with a node of a descendant piece.
  pub pieces_agree : All WholeNodes as' → All WholeNodes ds
      → (jointb (nodes (whole as')) (nodes (whole ds)) ≡ false) ↔ All (λ a. All (λ d. jointb (nodes a) (nodes d) ≡ false) ds) as'
  pieces_agree no_ancestor_cut no_descendant_cut = whole_agrees as' ds no_ancestor_cut no_descendant_cut

  -- So the whole lists draw none of the answers 3 to 8 exactly when the pieces of each pass, and
  -- each ancestor piece is taken together with each descendant piece.
  pub both_lists_checked : All Fits as' → All Fits ds
      → (DrawsNone (whole as') × DrawsNone (whole ds) × (jointb (nodes (whole as')) (nodes (whole ds)) ≡ false))
      ↔ (PiecesPass as' × PiecesPass ds × All (λ a. All (λ d. TakenTogether a d) ds) as')
  both_lists_checked ancestors-fit descendants-fit = both_checked as' ds ancestors-fit descendants-fit

-- An ancestor piece and a descendant piece need no call where they share no document:
module _ (a d : List ℕ) where
  -- they have no pairs, are not at odds, and are taken together where each is taken,
  pub other_documents_need_no_call : OtherDocuments a d
      → ((ask : Asked) → pairs_of ask a d ≡ []) × (jointb (nodes a) (nodes d) ≡ false) × (Taken a → Taken d → TakenTogether a d)
  other_documents_need_no_call other = (λ ask. nothing_listed a d other ask, nothing_odd a d other, others_taken a d other)

  -- and where each has a node, their first and last nodes show it if one ends in a lower document
  -- than the other starts in
  pub borders_tell_other_documents : Taken a → Taken d → HasNode a → HasNode d
      → ((last_node a).document < (first_node d).document) ⊎ ((last_node d).document < (first_node a).document) → OtherDocuments a d
  borders_tell_other_documents a-taken d-taken a-has-node d-has-node part = ranges_part a d a-taken d-taken a-has-node d-has-node part
