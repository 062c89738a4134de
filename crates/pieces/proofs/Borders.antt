-- Why it holds: Along a taken piece every node stands after the first and before the last. So the
-- last node of one piece and the first node of the next decide how all nodes of the two stand to
-- one another.
-- What would break it: An empty piece between two others would break the chain and be caught here.
use Prim.Native.Nat.{ℕ, ◌-◌, ◌≤◌, ◌<◌}
use mathlib.Core.Path.{◌≡◌, refl, sym, subst}
use mathlib.Core.Logic.{◌↔◌, ◌⊎◌, inl, inr, ⊎_elim}
use mathlib.Core.Bool.{true}
use mathlib.Core.List.{List, [], ◌∷◌}
use native.Mathlib.Omega.{arith}
use lib.Dec.{ltb}
use lib.ListN.{length, get_or}
use borrow.Author.Tests.{ltb-true, ltb-false}
use Rattle.laws.specs.Choose.{All, EveryTwo}
use Rattle.laws.proofs.Choices.{all_map, all_both, all_at, at_all, every_two_at, every_two_map, pairs_passed}
use Rattle.laws.proofs.Tests.{either}
use Rattle.nodes.specs.declared.node.Node.{Node}
use Rattle.nodes.specs.Node.{afterb}
use Rattle.nodes.specs.Words.{node, nodes, node_at, count}
use Rattle.nodes.proofs.NodeLaws.{after_read, after_trans}
use Rattle.nodes.proofs.WordLaws.{length_nodes}
use Rattle.lists.proofs.Taken.{taken_iff, words_check}
use Rattle.pieces.specs.Checks.{DrawsNone, Fits, HasNode, Taken, TakenTogether, StandsAfter, LowerDocuments, OtherDocuments}
use Rattle.pieces.specs.Checks.{first_node, last_node, StartsAfter, EachNext}
use Rattle.pieces.specs.Pieces.{whole}
use Rattle.pieces.proofs.Apart.{lower_taken, lower_others, higher_others}
use Rattle.pieces.proofs.Checking.{whole_checked}
use Rattle.pieces.proofs.Cutting.{every_two_both}

-- The node n is e, or stands after it.
abbrev From : Node → Node → Type 0
From e n = (n ≡ e) ⊎ (afterb n e ≡ true)

from_document : (e n : Node) → From e n → e.document ≤ n.document
from_document e n h = ⊎_elim (λ q. subst (λ x. e.document ≤ x.document) (sym q) (omega arith))
    (λ a. ⊎_elim (λ d. omega arith) (λ d. omega (arith, d.0)) (after_read n e a)) h

ascends : (w : List ℕ) → Taken w → EveryTwo (λ e n. afterb n e ≡ true) (nodes w)
ascends w t = every_two_map (λ e n f. f.after) (nodes w) ((taken_iff (nodes w)).0 ((words_check w).0 t).1).1

from_first : (w : List ℕ) → Taken w → All (From (first_node w)) (nodes w)
unfolding node_at
from_first w t = along (nodes w) (ascends w t)
  where
    along : (ns : List Node) → EveryTwo (λ e n. afterb n e ≡ true) ns → All (From (get_or ns 0 (node 0 0 0 0))) ns
    along [] h = tt
    along (n ∷ ns) h = (inl refl, all_map (λ m a. inr a) ns h.0)

to_last : (w : List ℕ) → Taken w → All (λ e. From e (last_node w)) (nodes w)
unfolding node_at
to_last w t =
    let none = node 0 0 0 0 in
    at_all (λ e. From e (last_node w)) (nodes w) none (λ i l.
    elim (either (ltb i (count w - 1))) [
      | inl h ↦ inr (every_two_at (λ e n. afterb n e ≡ true) (nodes w) i (count w - 1) none (ltb-true i (count w - 1) h)
          (let m = length_nodes w in omega arith) (ascends w t))
      | inr h ↦ inl (let b = ltb-false i (count w - 1) h in
          let m = length_nodes w in
          let e : i ≡ count w - 1 = omega arith in
          subst (λ k. get_or (nodes w) (count w - 1) none ≡ get_or (nodes w) k none) (sym e) refl)
    ])

-- v and w are two taken pieces that have a node each.
module _ (v w : List ℕ) (s : Taken v) (t : Taken w) (v_has : HasNode v) (w_has : HasNode w) where
  -- A node from the first of w on stands after a node up to the last of v.
  between : (e n : Node) → From e (last_node v) → From (first_node w) n → StartsAfter w v → afterb n e ≡ true
  between e n p q a =
      let after-end : afterb n (last_node v) ≡ true =
      ⊎_elim (λ r. subst (λ x. afterb x (last_node v) ≡ true) (sym r) a) (λ r. after_trans n (first_node w) (last_node v) r a) q in
      ⊎_elim (λ r. subst (λ x. afterb n x ≡ true) r after-end) (λ r. after_trans n (last_node v) e after-end r) p

  -- Where the first node of w comes after the last node of v, all nodes of w come after those of v.
  pub stands : StartsAfter w v → StandsAfter w v
  stands a = all_map (λ e p. all_map (λ n q. between e n p q a) (nodes w) (from_first w t)) (nodes v) (to_last v s)

  -- And where w starts in a higher document than v ends in, all its documents are higher.
  pub documents_part : (last_node v).document < (first_node w).document → LowerDocuments v w
  documents_part l =
      all_map (λ e p. all_map (λ n q.
      let x = from_document e (last_node v) p in
      let y = from_document (first_node w) n q in
      omega arith) (nodes w) (from_first w t)) (nodes v) (to_last v s)

-- Two pieces share no document where one ends in a lower document than the other starts in.
pub ranges_part : (v w : List ℕ) → Taken v → Taken w → HasNode v → HasNode w
    → ((last_node v).document < (first_node w).document) ⊎ ((last_node w).document < (first_node v).document) → OtherDocuments v w
ranges_part v w s t p q h =
    ⊎_elim (λ l. lower_others v w (documents_part v w s t p q l)) (λ l. higher_others v w (documents_part w v t s q p l)) h

-- Where each has a node and all nodes of w come after those of v, the first of w comes after the
-- last of v.
starts : (v w : List ℕ) → HasNode v → HasNode w → StandsAfter w v → StartsAfter w v
unfolding node_at
starts v w p q a =
    let none = node 0 0 0 0 in
    all_at (λ n. afterb n (last_node v) ≡ true) (nodes w) 0 none (let m = length_nodes w in omega arith)
    (all_at (λ e. All (λ n. afterb n e ≡ true) (nodes w)) (nodes v) (count v - 1) none (let m = length_nodes v in omega arith) a)

-- What stands after a piece that has a node stands after all that this piece stands after.
stands_trans : (u v w : List ℕ) → HasNode v → StandsAfter v u → StandsAfter w v → StandsAfter w u
unfolding node_at
stands_trans u v w p a b =
    let none = node 0 0 0 0 in
    let l : 0 < length (nodes v) = let m = length_nodes v in omega arith in
    let later = all_at (λ e. All (λ n. afterb n e ≡ true) (nodes w)) (nodes v) 0 none l b in
    all_map (λ e k.
    let before = all_at (λ m. afterb m e ≡ true) (nodes v) 0 none l k in
    all_map (λ n c. after_trans n (get_or (nodes v) 0 none) e c before) (nodes w) later) (nodes u) a

-- Each piece stands after all earlier ones exactly when the first node of each comes after the last
-- node of the one before it.
pub borders_enough : (ws : List (List ℕ)) → All Taken ws → All HasNode ws
    → EveryTwo (λ v w. StandsAfter w v) ws ↔ EachNext (λ v w. StartsAfter w v) ws
borders_enough [] t c = (λ h. tt, λ h. tt)
borders_enough (v ∷ []) t c = (λ h. tt, λ h. (tt, tt))
borders_enough (v ∷ w ∷ ws) t c =
    let rest = borders_enough (w ∷ ws) t.1 c.1 in (
      λ h. (starts v w c.0 c.1.0 h.0.0, rest.0 h.1),
      λ h. let a = stands v w t.0 t.1.0 c.0 c.1.0 h.0 in
          let r = rest.1 h.1 in
          ((a, all_map (λ x b. stands_trans v w x c.1.0 a b) ws r.0), r),
    )

-- Any two pieces are taken together, as their borders or the check of the two show.
together : (ws : List (List ℕ)) → All Taken ws → All HasNode ws
    → EveryTwo (λ v w. ((last_node v).document < (first_node w).document) ⊎ TakenTogether v w) ws → EveryTwo TakenTogether ws
together ws t c h =
    pairs_passed (λ w. Taken w × HasNode w) TakenTogether ws (all_both (λ w a b. (a, b)) ws t c)
    (every_two_map (λ v w k a b. ⊎_elim (λ l. lower_taken v w (documents_part v w a.0 b.0 a.1 b.1 l) a.0 b.0) (λ x. x) k) ws h)

-- So the whole draws none of the answers 3 to 7 exactly when each piece, the borders, and any two
-- pieces whose documents may meet pass their checks.
pub borders_checked : (ws : List (List ℕ)) → All Fits ws → All HasNode ws → DrawsNone (whole ws) ↔ (All Taken ws
    × EachNext (λ v w. StartsAfter w v) ws
    × EveryTwo (λ v w. ((last_node v).document < (first_node w).document) ⊎ TakenTogether v w) ws)
borders_checked ws f c =
    let exact = whole_checked ws f in (
      λ h. let p = exact.0 h in
          (p.0, (borders_enough ws p.0 c).0 (every_two_map (λ v w k. k.1) ws p.1), every_two_map (λ v w k. inr k.0) ws p.1),
      λ h. exact.1 (h.0, every_two_both (λ v w a b. (a, b)) ws (together ws h.0 c h.2) ((borders_enough ws h.0 c).1 h.1)),
    )
