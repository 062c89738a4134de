-- Why it holds: The nodes of a piece are nodes of the whole and ascend. So the listing of two
-- pieces ascends too and holds only pairs of the whole's listing, and so does what is left past a
-- place.
-- What would break it: Pieces that hold another node, or don't ascend, would be caught here.
use Prim.Native.Nat.{ℕ}
use mathlib.Core.Path.{◌≡◌}
use mathlib.Core.Logic.{◌↔◌}
use mathlib.Core.Bool.{Bool, true}
use mathlib.Core.List.{List}
use Rattle.laws.specs.Choose.{All, EveryTwo, In}
use Rattle.laws.proofs.Choices.{all_in, all_map, all_both, each_in, keep_in, keep_past, keep_every_two, keep_all_of, take_all_of}
use Rattle.nodes.specs.Words.{nodes}
use Rattle.paging.specs.Key.{aboveb}
use Rattle.paging.specs.Page.{Spot, pastb, remains, handed}
use Rattle.paging.proofs.Demand.{Ascends}
use Rattle.tickets.specs.Listing.{Pair, sort_key, listing}
use Rattle.tickets.specs.Ticket.{Asked}
use Rattle.tickets.proofs.Listed.{listed_iff, listing_ascends}
use Rattle.pieces.specs.Checks.{DrawsNone}
use Rattle.pieces.specs.Pieces.{whole, WholeNodes, pairs_of, piece_pairs}
use Rattle.pieces.proofs.Cutting.{each, piece_nodes, all_pieces}
use Rattle.pieces.proofs.Meeting.{pieces_iff}
use Rattle.pieces.proofs.Once.{After, whole_ascends, pieces_ascend}

-- A piece ascends, and its nodes are nodes of the whole.
own : (ws : List (List ℕ)) → All WholeNodes ws → DrawsNone (whole ws)
    → All (λ w. EveryTwo After (nodes w) × All (λ x. In x (piece_nodes ws)) (nodes w)) ws
own ws h d = all_both (λ w a i. (a, i)) ws (pieces_ascend ws h d).0 ((all_pieces (λ x. In x (piece_nodes ws)) ws).0 (each_in (piece_nodes ws)))

module _ (ask : Asked) where
  -- The listing of two pieces ascends, and holds only pairs of a given listing.
  abbrev pub WithinWhole : List Pair → List ℕ → List ℕ → Type 0
  WithinWhole ps a d = Ascends (sort_key ask.order) (pairs_of ask a d) × All (λ p. In p ps) (pairs_of ask a d)

  module _ (as' ds : List (List ℕ)) where
    -- The listing of the wholes.
    abbrev pub whole_pairs : List Pair
    whole_pairs = listing ask (piece_nodes as') (piece_nodes ds)

    -- Each of its pairs is a pair of two pieces.
    pub pairs_met : (p : Pair) → In p whole_pairs → In p (piece_pairs ask as' ds)
    pairs_met p m = (pieces_iff ask p as' ds).1 ((listed_iff ask (piece_nodes as') (piece_nodes ds) p).0 m)

    module _ (h : All WholeNodes as') (k : All WholeNodes ds) (t : DrawsNone (whole as')) (u : DrawsNone (whole ds)) where
      pub pairs_ascend : Ascends (sort_key ask.order) whole_pairs
      pairs_ascend = listing_ascends ask (piece_nodes as') (piece_nodes ds) (whole_ascends as' h t) (whole_ascends ds k u)

      part : (a d : List ℕ) → EveryTwo After (nodes a) × All (λ x. In x (piece_nodes as')) (nodes a)
          → EveryTwo After (nodes d) × All (λ x. In x (piece_nodes ds)) (nodes d) → WithinWhole whole_pairs a d
      part a d x y = (
        listing_ascends ask (nodes a) (nodes d) x.0 y.0,
        each (λ p. In p whole_pairs) (pairs_of ask a d) (λ p m.
            let l = (listed_iff ask (nodes a) (nodes d) p).0 m in
            (listed_iff ask (piece_nodes as') (piece_nodes ds) p).1 (
              all_in (λ z. In z (piece_nodes as')) (nodes a) x.1 l.0,
              all_in (λ z. In z (piece_nodes ds)) (nodes d) y.1 l.1,
              l.2,
            )),
      )

      pub parts : All (λ a. All (λ d. WithinWhole whole_pairs a d) ds) as'
      parts = all_map (λ a x. all_map (λ d y. part a d x y) ds (own ds k u)) as' (own as' h t)

  module _ (place : Spot) where
    abbrev past : Pair → Bool
    past p = pastb place (sort_key ask.order p)

    -- What is left of a listing past the place.
    abbrev pub left : List Pair → List Pair
    left ps = remains (sort_key ask.order) place ps

    pub left_iff : (ps : List Pair) (p : Pair) → In p (left ps) ↔ (In p ps × (past p ≡ true))
    unfolding remains
    left_iff ps p = (
      λ m. (
        all_in (λ q. In q ps) (left ps) (keep_all_of (λ q. In q ps) past ps (each_in ps)) m,
        all_in (λ q. past q ≡ true) (left ps) (keep_past past ps) m,
      ),
      λ h. keep_in past ps p h.0 h.1,
    )

    pub left_ascends : (ps : List Pair) → Ascends (sort_key ask.order) ps → Ascends (sort_key ask.order) (left ps)
    unfolding remains
    left_ascends ps h = keep_every_two (λ p q. aboveb (sort_key ask.order q) (sort_key ask.order p) ≡ true) past ps h

    -- A page holds nothing but what is left.
    pub page_left : (n : ℕ) (ps : List Pair) → All (λ p. In p (left ps)) (handed (sort_key ask.order) place n ps)
    unfolding handed
    page_left n ps = take_all_of (λ p. In p (left ps)) n (left ps) (each_in (left ps))

    -- What is left of two pieces' listing is left of the whole's.
    pub part_left : (ps : List Pair) (a d : List ℕ) → WithinWhole ps a d → All (λ p. In p (left ps)) (left (pairs_of ask a d))
    part_left ps a d h =
        let qs = pairs_of ask a d in
        each (λ p. In p (left ps)) (left qs)
        (λ p j. let l = (left_iff qs p).0 j in (left_iff ps p).1 (all_in (λ q. In q ps) qs h.1 l.0, l.1))
