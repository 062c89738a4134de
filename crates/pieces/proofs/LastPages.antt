-- Why it holds: A page is the last where no more pairs are left than it has room for. What is left
-- of the whole is what is left of the pieces together.
-- What would break it: A whole that is called done while one of its pieces has a pair left would be
-- caught here.
use Prim.Native.Nat.{ℕ, ◌≤◌}
use mathlib.Core.Path.{◌≡◌, refl}
use mathlib.Core.Logic.{◌↔◌}
use mathlib.Core.Bool.{true}
use mathlib.Core.List.{List}
use native.Mathlib.Omega.{arith}
use lib.ListN.{length, take, length-take}
use lib.Seq.{take_all}
use borrow.Author.Tests.{eqb-true, eq-eqb}
use Rattle.laws.specs.Choose.{All, In}
use Rattle.laws.proofs.Choices.{all_in, all_map}
use Rattle.paging.specs.Page.{Spot, handed, doneb}
use Rattle.paging.proofs.Demand.{Ascends}
use Rattle.tickets.specs.Listing.{Pair, sort_key}
use Rattle.tickets.specs.declared.ticket.Ticket.{Ticket}
use Rattle.tickets.specs.PairWords.{room}
use Rattle.tickets.specs.Ticket.{Asked, asked_by, spot_of}
use Rattle.pairs.specs.Calls.{Call, AcceptedCall, answer}
use Rattle.pairs.specs.Page.{says_done, page_of}
use Rattle.pairs.proofs.Answered.{not_refused}
use Rattle.pieces.specs.Checks.{DrawsNone}
use Rattle.pieces.specs.Pieces.{whole, WholeNodes, pairs_of, page_for, piece_pages, is_last}
use Rattle.pieces.proofs.Cutting.{each, nodes_whole}
use Rattle.pieces.proofs.Firsts.{no_longer}
use Rattle.pieces.proofs.Made.{each_again}
use Rattle.pieces.proofs.PageParts.{whole_pairs, pairs_met, pairs_ascend, parts, left, left_iff, left_ascends, part_left}
use Rattle.pieces.proofs.Pages.{pages_left}

-- An accepted call says done exactly where the page of its two lists is the last.
pub call_last : (t : Ticket) (c : Call) → AcceptedCall c
    → (answer t c).done ≡ is_last (asked_by t) (spot_of t.place) (room c.out) c.ancestors c.descendants
unfolding page_of says_done
call_last t c a = rw (not_refused c a) refl

module _ (ask : Asked) (place : Spot) (n : ℕ) where
  abbrev key : Pair → List ℕ
  key = sort_key ask.order

  last_iff : (ps : List Pair) → (doneb key place n ps ≡ true) ↔ (length (left ask place ps) ≤ n)
  unfolding doneb handed
  last_iff ps =
      let rest = left ask place ps in (
        λ h. let full : length (take n rest) ≡ length rest = eqb-true (length (take n rest)) (length rest) h in
            omega (arith, full, length-take n rest),
        λ h. eq-eqb (length (take n rest)) (length rest) (omega (arith, length-take n rest)),
      )

  -- The last page holds all that is left.
  last_holds : (ps : List Pair) → doneb key place n ps ≡ true → handed key place n ps ≡ left ask place ps
  unfolding handed
  last_holds ps h = take_all n (left ask place ps) ((last_iff ps).0 h)

  module _ (as' ds : List (List ℕ)) (h : All WholeNodes as') (k : All WholeNodes ds) (t : DrawsNone (whole as')) (u : DrawsNone (whole ds)) where
    abbrev listed : List Pair
    listed = whole_pairs ask as' ds

    -- What is left of the whole's listing ascends.
    rest_ascends : Ascends key (left ask place listed)
    rest_ascends = left_ascends ask place listed (pairs_ascend ask as' ds h k t u)

    -- Where the whole's page is the last, so is that of any two pieces.
    each_last : doneb key place n listed ≡ true → All (λ a. All (λ d. is_last ask place n a d ≡ true) ds) as'
    each_last l =
        let few = (last_iff listed).0 l in
        all_map (λ a x. all_map (λ d part.
        let qs = pairs_of ask a d in
        let own-ascends = left_ascends ask place qs part.0 in
        let fewer = no_longer key (left ask place listed) (left ask place qs) rest_ascends own-ascends (part_left ask place listed a d part) in
        (last_iff qs).1 (omega arith)) ds x) as' (parts ask as' ds h k t u)

    -- Where the page of any two pieces is their last, the pages hold all that is left of the whole.
    all_held : All (λ a. All (λ d. is_last ask place n a d ≡ true) ds) as' → (p : Pair) → In p (left ask place listed)
        → In p (piece_pages ask place n as' ds)
    all_held l p m =
        let lies = (left_iff ask place listed p).0 m in
        each_again p (pairs_of ask) (page_for ask place n) as' ds
        (all_map (λ a x. all_map (λ d last i.
        let qs = pairs_of ask a d in
        rw (last_holds qs last) ((left_iff ask place qs p).1 (i, lies.1))) ds x) as' l)
        (pairs_met ask as' ds p lies.0)

    module _ (merged : List Pair) (m : Ascends key merged) (same : (p : Pair) → In p merged ↔ In p (piece_pages ask place n as' ds)) where
      -- The merged pages are no more than what is left of the whole's listing, and where they hold
      -- all of it, no less.
      no_more : length merged ≤ length (left ask place listed)
      no_more =
          let pages = piece_pages ask place n as' ds in
          no_longer key (left ask place listed) merged rest_ascends m
          (each (λ p. In p (left ask place listed)) merged
          (λ p i. all_in (λ q. In q (left ask place listed)) pages (pages_left ask place n as' ds h k t u) ((same p).0 i)))

      no_less : ((p : Pair) → In p (left ask place listed) → In p (piece_pages ask place n as' ds)) → length (left ask place listed) ≤ length merged
      no_less held = no_longer key merged (left ask place listed) m rest_ascends
          (each (λ p. In p merged) (left ask place listed) (λ p i. (same p).1 (held p i)))

      -- The whole's page is the last exactly when the page of any two pieces is their last, and
      -- all of these together have no more than n pairs.
      pub pages_last : (is_last ask place n (whole as') (whole ds) ≡ true)
          ↔ (All (λ a. All (λ d. is_last ask place n a d ≡ true) ds) as' × (length merged ≤ n))
      pages_last = rw (nodes_whole as' h, nodes_whole ds k) (
        λ l. let few = (last_iff listed).0 l in let fewer = no_more in (each_last l, omega arith),
        λ l. let fewer = no_less (all_held l.0) in let few = l.1 in (last_iff listed).1 (omega arith),
      )
