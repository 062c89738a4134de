-- Why it holds: The first n of two listings in a row are the first n of the one, then as many of
-- the other as these leave room for. A leading list that is cut is listed piece by piece, so its
-- pages come in turn.
-- What would break it: A piece that is asked for more than the room that is left, or past another
-- place, would be caught here.
use Prim.Native.Nat.{ℕ, zero, suc, ◌-◌}
use mathlib.Core.Path.{◌≡◌, refl, ap, ◌∙◌}
use mathlib.Core.List.{List, [], ◌∷◌, ◌++◌, append-nil}
use native.Mathlib.Omega.{arith}
use lib.ListN.{length, take}
use lib.Seq.{take-nil}
use Rattle.laws.specs.Choose.{All, keep}
use Rattle.paging.specs.Page.{Spot, remains, handed}
use Rattle.paging.proofs.PageLaws.{remains_append}
use Rattle.tickets.specs.declared.ticket.Order.TheVariants.{Descendant, Ancestor}
use Rattle.tickets.specs.declared.ticket.Relation.{Relation}
use Rattle.tickets.specs.Listing.{Pair, sort_key}
use Rattle.tickets.specs.Ticket.{Asked, asked}
use Rattle.pieces.specs.Pieces.{whole, WholeNodes, with_each, each_with_each, pairs_of, piece_pairs, page_for, in_turn}
use Rattle.pieces.proofs.InTurn.{in_descendant_order, in_ancestor_order}

-- The first n of two lists in a row are the first n of the one, then as many of the other as these
-- leave room for.
take_append : {A : Type 0} (n : ℕ) (xs ys : List A) → take n (xs ++ ys) ≡ take n xs ++ take (n - length (take n xs)) ys
take_append zero xs ys = refl
take_append (suc n) [] ys =
    let all : suc n ≡ suc n - 0 = omega arith in
    ap (λ k. take k ys) all
take_append (suc n) (x ∷ xs) ys =
    let rest = take n xs in
    let left : n - length rest ≡ suc n - suc (length rest) = omega arith in
    ap (λ zs. x ∷ zs) (take_append n xs ys ∙ ap (λ k. rest ++ take k ys) left)

-- The same for a page of two listings in a row.
module _ {A : Type 0} (key : A → List ℕ) (place : Spot) where
  handed_append : (n : ℕ) (xs ys : List A)
      → handed key place n (xs ++ ys) ≡ handed key place n xs ++ handed key place (n - length (handed key place n xs)) ys
  unfolding handed
  handed_append n xs ys = ap (take n) (remains_append key place xs ys) ∙ take_append n (remains key place xs) (remains key place ys)

  handed_none : (n : ℕ) → handed key place n [] ≡ []
  unfolding handed remains keep
  handed_none n = take-nil n

module _ (ask : Asked) (place : Spot) where
  abbrev key : Pair → List ℕ
  key = sort_key ask.order

  descendants_paged : (n : ℕ) (a : List ℕ) (ds : List (List ℕ))
      → handed key place n (with_each (pairs_of ask) a ds) ≡ in_turn (λ k d. page_for ask place k a d) n ds
  unfolding with_each in_turn
  descendants_paged n a [] = handed_none key place n
  descendants_paged n a (d ∷ ds) =
      let page = page_for ask place n a d in
      handed_append key place n (pairs_of ask a d) (with_each (pairs_of ask) a ds)
      ∙ ap (λ ps. page ++ ps) (descendants_paged (n - length page) a ds)

  ancestors_paged : (n : ℕ) (as' : List (List ℕ)) (d : List ℕ)
      → handed key place n (piece_pairs ask as' (d ∷ [])) ≡ in_turn (λ k a. page_for ask place k a d) n as'
  unfolding with_each each_with_each in_turn
  ancestors_paged n [] d = handed_none key place n
  ancestors_paged n (a ∷ as') d =
      let page = page_for ask place n a d in
      ap (λ ps. handed key place n (ps ++ piece_pairs ask as' (d ∷ []))) (append-nil (pairs_of ask a d))
      ∙ handed_append key place n (pairs_of ask a d) (piece_pairs ask as' (d ∷ []))
      ∙ ap (λ ps. page ++ ps) (ancestors_paged (n - length page) as' d)

module _ (relation : Relation) (place : Spot) (n : ℕ) where
  -- Where the descendants are cut, their page in descendant order is that of the pieces in turn.
  pub descendants_in_turn : (a : List ℕ) (ds : List (List ℕ)) → All WholeNodes ds
      → page_for (asked relation Descendant) place n a (whole ds) ≡ in_turn (λ k d. page_for (asked relation Descendant) place k a d) n ds
  unfolding each_with_each
  descendants_in_turn a ds h =
      let ask = asked relation Descendant in
      let listed = with_each (pairs_of ask) a ds in
      ap (handed (sort_key Descendant) place n) (in_descendant_order relation a ds h ∙ append-nil listed)
      ∙ descendants_paged ask place n a ds

  -- Where the ancestors are cut, their page in ancestor order is that of the pieces in turn.
  pub ancestors_in_turn : (as' : List (List ℕ)) (d : List ℕ) → All WholeNodes as'
      → page_for (asked relation Ancestor) place n (whole as') d ≡ in_turn (λ k a. page_for (asked relation Ancestor) place k a d) n as'
  ancestors_in_turn as' d h =
      ap (handed (sort_key Ancestor) place n) (in_ancestor_order relation as' d h)
      ∙ ancestors_paged (asked relation Ancestor) place n as' d
