-- Why it holds: A leading piece's page with the whole other list is merged from its pages with that
-- list's pieces. So leading pieces that are asked in turn, each with all of these, make the whole's
-- page.
-- What would break it: A piece of the other list that is passed over would be caught here.
use Prim.Native.Nat.{ℕ, ◌-◌}
use mathlib.Core.Path.{◌≡◌, refl, sym, ap, subst, ◌∙◌}
use mathlib.Core.List.{List, [], ◌∷◌, ◌++◌, append-nil}
use lib.ListN.{length, take}
use Rattle.laws.specs.Choose.{All}
use Rattle.laws.proofs.Choices.{all_both}
use Rattle.nodes.specs.Words.{nodes}
use Rattle.lists.proofs.Faults.{Sound}
use Rattle.lists.proofs.Taken.{Fine, taken_iff}
use Rattle.paging.specs.Page.{Spot}
use Rattle.tickets.specs.declared.ticket.Order.TheVariants.{Descendant, Ancestor}
use Rattle.tickets.specs.declared.ticket.Relation.{Relation}
use Rattle.tickets.specs.Listing.{Pair}
use Rattle.tickets.specs.Ticket.{asked}
use Rattle.pieces.specs.Checks.{DrawsNone}
use Rattle.pieces.specs.Pieces.{whole, WholeNodes, page_for, piece_pages, MergedFrom, in_turn}
use Rattle.pieces.proofs.Cutting.{piece_nodes, nodes_whole, all_pieces, pairs_pieces}
use Rattle.pieces.proofs.Pages.{pages_merged}
use Rattle.pieces.proofs.PagesInTurn.{descendants_in_turn, ancestors_in_turn}

-- A piece has whole nodes, which draw none of the answers 3 to 7.
abbrev Good : List ℕ → Type 0
Good w = WholeNodes w × DrawsNone w

-- Where the whole draws none of these answers, no piece does.
none_drawn : (ws : List (List ℕ)) → All WholeNodes ws → DrawsNone (whole ws) → All Good ws
none_drawn ws h t =
    let r = (taken_iff (piece_nodes ws)).0 (rw (nodes_whole ws h) at t) in
    let drawn : All DrawsNone ws =
    all_both (λ w s f. (taken_iff (nodes w)).1 (s, f)) ws ((all_pieces Sound ws).0 r.0) ((pairs_pieces Fine ws).0 r.1).0 in
    all_both (λ w x y. (x, y)) ws h drawn

-- A single piece is its own whole.
one : (w : List ℕ) → whole (w ∷ []) ≡ w
unfolding whole
one w = append-nil w

-- Where two ways to make a page agree on every piece, they make the same in turn.
same_in_turn : (f g : ℕ → List ℕ → List Pair) (n : ℕ) (ws : List (List ℕ)) → All (λ w. (k : ℕ) → f k w ≡ g k w) ws → in_turn f n ws ≡ in_turn g n ws
unfolding in_turn
same_in_turn f g n [] h = refl
same_in_turn f g n (w ∷ ws) h =
    ap (λ ps. ps ++ in_turn f (n - length ps) ws) (h.0 n)
    ∙ ap (λ ps. g n w ++ ps) (same_in_turn f g (n - length (g n w)) ws h.1)

module _ (relation : Relation) (place : Spot) (n : ℕ) (as' ds : List (List ℕ)) (h : All WholeNodes as') (k : All WholeNodes ds)
    (t : DrawsNone (whole as')) (u : DrawsNone (whole ds)) (merged : ℕ → List ℕ → List Pair) where
  -- The descendants lead, each piece with all pieces of the ancestors.
  pub descendants_merged : let ask = asked relation Descendant in
      All (λ d. (j : ℕ) → MergedFrom ask (merged j d) (piece_pages ask place j as' (d ∷ []))) ds
      → in_turn (λ j d. take j (merged j d)) n ds ≡ page_for ask place n (whole as') (whole ds)
  descendants_merged m =
      let ask = asked relation Descendant in
      same_in_turn (λ j d. take j (merged j d)) (λ j d. page_for ask place j (whole as') d) n ds
      (all_both {P = Good} (λ d w f j. pages_merged ask place j as' (d ∷ []) h (w.0, tt) t (subst DrawsNone (sym (one d)) w.1) (merged j d) (f j).0 (f j).1
      ∙ ap (page_for ask place j (whole as')) (one d)) ds (none_drawn ds k u) m)
      ∙ sym (descendants_in_turn relation place n (whole as') ds k)

  -- The ancestors lead, each piece with all pieces of the descendants.
  pub ancestors_merged : let ask = asked relation Ancestor in
      All (λ a. (j : ℕ) → MergedFrom ask (merged j a) (piece_pages ask place j (a ∷ []) ds)) as'
      → in_turn (λ j a. take j (merged j a)) n as' ≡ page_for ask place n (whole as') (whole ds)
  ancestors_merged m =
      let ask = asked relation Ancestor in
      same_in_turn (λ j a. take j (merged j a)) (λ j a. page_for ask place j a (whole ds)) n as'
      (all_both {P = Good} (λ a w f j. pages_merged ask place j (a ∷ []) ds (w.0, tt) k (subst DrawsNone (sym (one a)) w.1) u (merged j a) (f j).0 (f j).1
      ∙ ap (λ x. page_for ask place j x (whole ds)) (one a)) as' (none_drawn as' h t) m)
      ∙ sym (ancestors_in_turn relation place n as' (whole ds) h)
