-- Why it holds: A leader's pairs that have the relation are its group with the followers that
-- match, and the starts of these rise.
-- What would break it: A follower that matches and is left out, or two that come in the wrong
-- order, would be caught here.
use mathlib.Core.Path.{◌≡◌, refl, ap, sym, ◌∙◌}
use mathlib.Core.Logic.{inl, inr}
use mathlib.Core.Bool.{Bool}
use mathlib.Core.List.{List, [], ◌∷◌, ◌++◌}
use Prim.Native.Nat.{ℕ, ◌≤◌, ◌<◌}
use lib.ListN.{drop}
use Rattle.nodes.specs.declared.node.Node.{Node}
use Rattle.laws.specs.Choose.{All, EveryTwo, keep}
use Rattle.nodes.specs.Words.{nodes, count}
use Rattle.laws.proofs.Choices.{all_map, all_both, keep_past, keep_every_two}
use Rattle.nodes.proofs.NodeLaws.{after_starts}
use Rattle.laws.proofs.Tests.{either}
use Rattle.nodes.proofs.WordLaws.{nodes_beyond}
use Rattle.lists.proofs.Taken.{Fine}
use Rattle.paging.specs.Page.{remains}
use Rattle.tickets.specs.declared.ticket.Order.{Order}
use Rattle.tickets.specs.declared.ticket.Place.{Place}
use Rattle.tickets.specs.declared.ticket.Relation.{Relation}
use Rattle.tickets.specs.Listing.{relatedb, sort_key, leaders, followers, pair_of, every_pair, listing}
use Rattle.tickets.specs.Private.Group.{group, matches}
use Rattle.tickets.specs.Leaders.{served_in}
use Rattle.tickets.specs.Ticket.{spot_of, asked}
use Rattle.tickets.proofs.Listed.{group_document}
use Rattle.tickets.proofs.Groups.{rest_of, rest_next, rest_served}

-- Nodes of one document that ascend rise in their starts.
pub rising : (x : Node) (zs : List Node) → EveryTwo Fine zs → All (λ z. x.document ≡ z.document) zs → EveryTwo (λ y z. y.start < z.start) zs
rising x [] f h = tt
rising x (z ∷ zs) f h = (all_both (λ n g d. after_starts n z g.after (sym h.0 ∙ d)) zs f.0 h.1, rising x zs f.1 h.1)

module _ (relation : Relation) (order : Order) (x : Node) where
  -- Keeping the related pairs of a group keeps the followers that match.
  group_kept : (ys : List Node) → keep (relatedb relation) (group order x ys) ≡ group order x (matches (asked relation order) x ys)
  unfolding group matches keep
  group_kept [] = refl
  group_kept (y ∷ ys) =
      elim (either (relatedb relation (pair_of order x y)))
      [ inl h ↦ rw h (ap (λ ps. pair_of order x y ∷ ps) (group_kept ys)) | inr h ↦ rw h (group_kept ys) ]

  -- The starts of what matches a leader rise.
  pub matches_rise : (ys : List Node) → EveryTwo Fine ys → EveryTwo (λ y z. y.start < z.start) (matches (asked relation order) x ys)
  unfolding matches
  matches_rise ys f =
      let test : Node → Bool = λ y. relatedb relation (pair_of order x y) in
      rising x (keep test ys) (keep_every_two Fine test ys f)
      (all_map (λ y h. sym (group_document relation order x y h)) (keep test ys) (keep_past test ys))

  -- What remains of a leader and those after it: its group with what matches, and what remains of
  -- the others.
  pub rest_group : (place : Place) (xs ys : List Node)
      → rest_of relation order place (x ∷ xs) ys
      ≡ remains (sort_key order) (spot_of place) (group order x (matches (asked relation order) x ys)) ++ rest_of relation order place xs ys
  rest_group place xs ys =
      rest_next relation order place x xs ys
      ∙ ap (λ ps. remains (sort_key order) (spot_of place) ps ++ rest_of relation order place xs ys) (group_kept ys)

-- In either order a sweep starts at the first leader that may have pairs past the place, and
-- nothing of the listing is lost.
pub sweep_start : (relation : Relation) (order : Order) (place : Place) (as' ds : List Node) (i : ℕ) → i ≡ served_in place (leaders order as' ds)
    → rest_of relation order place (drop i (leaders order as' ds)) (followers order as' ds)
    ≡ remains (sort_key order) (spot_of place) (listing (asked relation order) as' ds)
unfolding listing
sweep_start relation order place as' ds i q = rw q (sym (rest_served relation order place (leaders order as' ds) (followers order as' ds)))

-- And after the last leader nothing is left.
pub sweep_end : (relation : Relation) (order : Order) (place : Place) (ws : List ℕ) (ys : List Node) (i : ℕ) → count ws ≤ i
    → rest_of relation order place (drop i (nodes ws)) ys ≡ []
unfolding remains keep every_pair
sweep_end relation order place ws ys i l = rw (nodes_beyond ws i l) refl
