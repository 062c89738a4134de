-- Why it holds: Pairs of two listings have their ancestors or their descendants in different
-- pieces. A node of a later piece stands after all nodes of the earlier ones, so no pair comes in
-- both.
-- What would break it: Pieces that overlap would be caught here.
use Prim.Native.Nat.{ℕ}
use mathlib.Core.Path.{◌≡◌, sym, subst, ◌∙◌}
use mathlib.Core.Bool.{true, false}
use mathlib.Core.List.{List, [], ◌∷◌}
use native.Mathlib.Omega.{arith}
use Rattle.laws.specs.Choose.{All, EveryTwo}
use Rattle.laws.proofs.Choices.{all_in, every_two_append, every_two_map, pairs_passed}
use Rattle.laws.proofs.Tests.{never}
use Rattle.nodes.specs.declared.node.Node.{Node}
use Rattle.nodes.specs.Node.{afterb}
use Rattle.nodes.specs.Words.{nodes}
use Rattle.nodes.proofs.NodeLaws.{after_starts}
use Rattle.lists.proofs.Taken.{taken_iff}
use Rattle.paging.specs.Key.{aboveb}
use Rattle.paging.proofs.KeyLaws.{above_self}
use Rattle.tickets.specs.Listing.{Pair, askedb, sort_key, listing}
use Rattle.tickets.specs.Ticket.{Asked}
use Rattle.tickets.proofs.Listed.{listed_iff, related_document, listing_ascends}
use Rattle.pairs.specs.Calls.{SameStarts}
use Rattle.pairs.proofs.Following.{same_key}
use Rattle.pieces.specs.Checks.{DrawsNone, Across}
use Rattle.pieces.specs.Pieces.{whole, WholeNodes, with_each, each_with_each, pairs_of, piece_pairs}
use Rattle.pieces.proofs.Cutting.{each, piece_nodes, nodes_whole, pairs_pieces, from_later}
use Rattle.pieces.proofs.Meeting.{with_iff, pieces_iff}

-- The later of two nodes stands after the earlier one.
abbrev pub After : Node → Node → Type 0
After e n = afterb n e ≡ true

-- Two pairs differ in their document or in a start.
abbrev Differ : Pair → Pair → Type 0
Differ p q = SameStarts p q → ⊥

-- The nodes of a whole that draws no answer ascend,
pub whole_ascends : (ws : List (List ℕ)) → All WholeNodes ws → DrawsNone (whole ws) → EveryTwo After (piece_nodes ws)
whole_ascends ws h t = every_two_map (λ e n f. f.after) (piece_nodes ws) ((taken_iff (piece_nodes ws)).0 (rw (nodes_whole ws h) at t)).1

-- Within each piece and across every two.
pub pieces_ascend : (ws : List (List ℕ)) → All WholeNodes ws → DrawsNone (whole ws)
    → All (λ w. EveryTwo After (nodes w)) ws × EveryTwo (Across After) ws
pieces_ascend ws h t = (pairs_pieces After ws).0 (whole_ascends ws h t)

module _ (ask : Asked) where
  -- Two related pairs differ where their ancestors, or their descendants, stand one after the
  -- other.
  ancestors_differ : (p q : Pair) → After p.ancestor q.ancestor → Differ p q
  ancestors_differ p q h e = let s = after_starts q.ancestor p.ancestor h e.0 in omega (arith, s, e.1)

  descendants_differ : (p q : Pair) → askedb ask p ≡ true → askedb ask q ≡ true → After p.descendant q.descendant → Differ p q
  descendants_differ p q r s h e =
      let d = related_document ask.relation p r ∙ e.0 ∙ sym (related_document ask.relation q s) in
      let l = after_starts q.descendant p.descendant h d in
      omega (arith, l, e.2)

  -- No two pairs of one listing have the same starts.
  listing_once : (xs ys : List Node) → EveryTwo After xs → EveryTwo After ys → EveryTwo Differ (listing ask xs ys)
  listing_once xs ys h k =
      let ps = listing ask xs ys in
      let order = ask.order in
      let related : All (λ p. askedb ask p ≡ true) ps = each (λ p. askedb ask p ≡ true) ps (λ p m. ((listed_iff ask xs ys p).0 m).2) in
      pairs_passed (λ p. askedb ask p ≡ true) Differ ps related
      (every_two_map (λ p q a r s e.
      let same = same_key ask.relation order p q r s e in
      never a (subst (λ key. aboveb key (sort_key order p) ≡ false) same (above_self (sort_key order p))))
      ps (listing_ascends ask xs ys h k))

  with_once : (a : List ℕ) (ds : List (List ℕ)) → EveryTwo After (nodes a) → All (λ d. EveryTwo After (nodes d)) ds → EveryTwo (Across After) ds
      → EveryTwo Differ (with_each (pairs_of ask) a ds)
  unfolding with_each
  with_once a [] h k l = tt
  with_once a (d ∷ ds) h k l =
      let later = from_later After d ds l.0 in
      let ps = listing ask (nodes a) (nodes d) in
      let qs = with_each (pairs_of ask) a ds in
      every_two_append Differ ps qs (listing_once (nodes a) (nodes d) h k.0) (with_once a ds h k.1 l.1)
      (each (λ p. All (Differ p) qs) ps (λ p m. each (Differ p) qs (λ q n.
      let s = (listed_iff ask (nodes a) (nodes d) p).0 m in
      let t = (with_iff ask q a ds).0 n in
      descendants_differ p q s.2 t.2
      (all_in (After p.descendant) (piece_nodes ds) (all_in (λ e. All (After e) (piece_nodes ds)) (nodes d) later s.1) t.1))))

  pieces_once : (as' ds : List (List ℕ)) → All (λ a. EveryTwo After (nodes a)) as' → EveryTwo (Across After) as'
      → All (λ d. EveryTwo After (nodes d)) ds → EveryTwo (Across After) ds → EveryTwo Differ (piece_pairs ask as' ds)
  unfolding each_with_each
  pieces_once [] ds h k l m = tt
  pieces_once (a ∷ as') ds h k l m =
      let later = from_later After a as' k.0 in
      let ps = with_each (pairs_of ask) a ds in
      let qs = piece_pairs ask as' ds in
      every_two_append Differ ps qs (with_once a ds h.0 l m) (pieces_once as' ds h.1 k.1 l m)
      (each (λ p. All (Differ p) qs) ps (λ p i. each (Differ p) qs (λ q j.
      ancestors_differ p q
      (all_in (After p.ancestor) (piece_nodes as')
      (all_in (λ e. All (After e) (piece_nodes as')) (nodes a) later ((with_iff ask p a ds).0 i).0) ((pieces_iff ask q as' ds).0 j).0))))

  -- No pair of the pieces comes twice, nor do two with the same document and starts.
  pub none_twice : (as' ds : List (List ℕ)) → All WholeNodes as' → All WholeNodes ds → DrawsNone (whole as') → DrawsNone (whole ds)
      → EveryTwo (λ p q. SameStarts p q → ⊥) (piece_pairs ask as' ds)
  none_twice as' ds h k t u =
      let a = pieces_ascend as' h t in
      let d = pieces_ascend ds k u in
      pieces_once as' ds a.0 a.1 d.0 d.1
