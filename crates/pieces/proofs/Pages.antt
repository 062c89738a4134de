-- Why it holds: A pair of the whole's page has no more pairs before it in the listing of its own
-- two pieces than in the whole's. So it stands on their page too.
-- What would break it: Pages with less room than the whole's, or past another place, would be
-- caught here.
use Prim.Native.Nat.{ℕ}
use mathlib.Core.Path.{◌≡◌, refl, ◌∙◌}
use mathlib.Core.Logic.{◌↔◌}
use mathlib.Core.List.{List}
use lib.ListN.{take}
use Rattle.laws.specs.Choose.{All, In}
use Rattle.laws.proofs.Choices.{all_in, all_map}
use Rattle.paging.specs.Page.{Spot, handed}
use Rattle.paging.proofs.Demand.{Ascends}
use Rattle.tickets.specs.Listing.{Pair, sort_key}
use Rattle.tickets.specs.declared.ticket.Ticket.{Ticket}
use Rattle.tickets.specs.PairWords.{room}
use Rattle.tickets.specs.Ticket.{Asked, asked_by, spot_of}
use Rattle.pairs.specs.Calls.{Call, AcceptedCall, shown}
use Rattle.pairs.specs.Page.{handed_out}
use Rattle.pairs.proofs.Answered.{not_refused}
use Rattle.pairs.proofs.Shown.{shown_is}
use Rattle.pieces.specs.Checks.{DrawsNone}
use Rattle.pieces.specs.Pieces.{whole, WholeNodes, pairs_of, page_for, piece_pages}
use Rattle.pieces.proofs.Cutting.{each, nodes_whole}
use Rattle.pieces.proofs.Firsts.{still_first, same_first}
use Rattle.pieces.proofs.Made.{each_all, each_again}
use Rattle.pieces.proofs.PageParts.{WithinWhole, whole_pairs, pairs_met, pairs_ascend, parts, left, left_iff, left_ascends, page_left, part_left}

-- What an accepted call shows is the page of its two lists.
pub call_page : (t : Ticket) (c : Call) → AcceptedCall c
    → shown t c ≡ page_for (asked_by t) (spot_of t.place) (room c.out) c.ancestors c.descendants
unfolding handed_out
call_page t c a = shown_is t c ∙ rw (not_refused c a) refl

module _ (ask : Asked) (place : Spot) (n : ℕ) where
  abbrev key : Pair → List ℕ
  key = sort_key ask.order

  on_page : (ps : List Pair) (p : Pair) → In p (handed key place n ps) → In p (left ask place ps)
  on_page ps p m = all_in (λ q. In q (left ask place ps)) (handed key place n ps) (page_left ask place n ps) m

  -- Each pair of two pieces that is on the whole's page is on their page too.
  own_page : (ps : List Pair) (a d : List ℕ) → Ascends key ps → WithinWhole ask ps a d → (p : Pair) → In p (handed key place n ps) → In p (pairs_of ask a d)
      → In p (page_for ask place n a d)
  unfolding handed
  own_page ps a d h part p m i =
      let qs = pairs_of ask a d in
      still_first key n (left ask place ps) (left ask place qs) (left_ascends ask place ps h) (left_ascends ask place qs part.0)
      (part_left ask place ps a d part) p m
      ((left_iff ask place qs p).1 (i, ((left_iff ask place ps p).0 (on_page ps p m)).1))

  module _ (as' ds : List (List ℕ)) (h : All WholeNodes as') (k : All WholeNodes ds) (t : DrawsNone (whole as')) (u : DrawsNone (whole ds)) where
    abbrev pages : List Pair
    pages = piece_pages ask place n as' ds

    abbrev listed : List Pair
    listed = whole_pairs ask as' ds

    ascending : Ascends key listed
    ascending = pairs_ascend ask as' ds h k t u

    found : All (λ p. In p pages) (handed key place n listed)
    found = each (λ p. In p pages) (handed key place n listed) (λ p m.
        each_again p (pairs_of ask) (page_for ask place n) as' ds
        (all_map (λ a x. all_map (λ d part. own_page listed a d ascending part p m) ds x) as' (parts ask as' ds h k t u))
        (pairs_met ask as' ds p ((left_iff ask place listed p).0 (on_page listed p m)).0))

    -- The pieces' pages hold only pairs that are left of the whole's listing.
    pub pages_left : All (λ p. In p (left ask place listed)) pages
    pages_left =
        each_all (λ p. In p (left ask place listed)) (page_for ask place n) as' ds
        (all_map (λ a x. all_map (λ d part. all_map
        (λ p i. all_in (λ q. In q (left ask place listed)) (left ask place (pairs_of ask a d)) (part_left ask place listed a d part) i)
        (page_for ask place n a d) (page_left ask place n (pairs_of ask a d))) ds x) as' (parts ask as' ds h k t u))

    -- Each pair of the whole's page is on a page of the pieces.
    pub page_found : All (λ p. In p pages) (page_for ask place n (whole as') (whole ds))
    page_found = rw (nodes_whole as' h, nodes_whole ds k) found

    -- And the pieces' pages, merged by key, begin with the whole's page.
    pub pages_merged : (merged : List Pair) → Ascends key merged → ((p : Pair) → In p merged ↔ In p pages)
        → take n merged ≡ page_for ask place n (whole as') (whole ds)
    unfolding handed
    pages_merged merged m same =
        rw (nodes_whole as' h, nodes_whole ds k)
        (same_first key n (left ask place listed) merged (left_ascends ask place listed ascending) m
        (each (λ p. In p (left ask place listed)) merged (λ p i. all_in (λ q. In q (left ask place listed)) pages pages_left ((same p).0 i)))
        (all_map (λ p i. (same p).1 i) (handed key place n listed) found))
