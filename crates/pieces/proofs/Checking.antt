-- Why it holds: Each of the answers 3 to 7 is drawn by one node or by two. Any two nodes of the
-- whole lie in one piece or in two. So the checks of each piece and of any two pieces find every
-- fault.
-- What would break it: A check of neighbouring pieces alone would be caught here. It would miss a
-- node that crosses another two pieces before it.
use Prim.Native.Nat.{ℕ}
use mathlib.Core.Logic.{◌↔◌}
use mathlib.Core.List.{List}
use Rattle.laws.specs.Choose.{All, EveryTwo}
use Rattle.laws.proofs.Choices.{all_map, all_both, every_two_map, pairs_passed}
use Rattle.nodes.specs.Words.{nodes}
use Rattle.lists.proofs.Faults.{Sound}
use Rattle.lists.proofs.Merging.{fine_even, even_fine}
use Rattle.lists.proofs.Pairing.{two_taken_iff}
use Rattle.lists.proofs.Taken.{Fine, taken_iff, whole_words, words_check}
use Rattle.pieces.specs.Checks.{DrawsNone, Fits, Taken, TakenTogether, Across, StandsAfter, PiecesPass}
use Rattle.pieces.specs.Pieces.{whole, WholeNodes}
use Rattle.pieces.proofs.Cutting.{piece_nodes, nodes_whole, all_pieces, pairs_pieces}

-- Pieces that a call takes are whole nodes.
pub fit_whole : (ws : List (List ℕ)) → All Fits ws → All WholeNodes ws
fit_whole ws h = all_map (λ w f. ((whole_words w).0 f).0) ws h

-- Two lists whose nodes are fine across are taken together, and stand one after the other.
module _ (v w : List ℕ) where
  across_two : Taken v → Taken w → Across Fine v w → TakenTogether v w × StandsAfter w v
  across_two s t h = (
    (two_taken_iff v w).1 (s, t, all_map (λ e k. all_map (λ n f. fine_even e n f) (nodes w) k) (nodes v) h),
    all_map (λ e k. all_map (λ n f. f.after) (nodes w) k) (nodes v) h,
  )

  two_across : TakenTogether v w × StandsAfter w v → Across Fine v w
  two_across h =
      all_both (λ e o a. all_both (λ n p b. even_fine e n b p) (nodes w) o a) (nodes v) ((two_taken_iff v w).0 h.0).2 h.1

-- The whole draws none of the answers 3 to 7 exactly when the pieces pass.
pub whole_checked : (ws : List (List ℕ)) → All Fits ws → DrawsNone (whole ws) ↔ PiecesPass ws
whole_checked ws h = rw (nodes_whole ws (fit_whole ws h)) (
  λ t.
      let r = (taken_iff (piece_nodes ws)).0 t in
      let sound = (all_pieces Sound ws).0 r.0 in
      let fine = (pairs_pieces Fine ws).0 r.1 in
      let own : All (λ w. All Sound (nodes w) × EveryTwo Fine (nodes w)) ws = all_both (λ w s f. (s, f)) ws sound fine.0 in
      let taken : All Taken ws = all_both (λ w f o. (words_check w).1 (f, (taken_iff (nodes w)).1 o)) ws h own in (
        taken,
        pairs_passed Taken (λ v w. TakenTogether v w × StandsAfter w v) ws taken
            (every_two_map (λ v w a s t. across_two v w s t a) ws fine.1),
      ),
  λ p.
      let own = all_map (λ w t. (taken_iff (nodes w)).0 ((words_check w).0 t).1) ws p.0 in
      (taken_iff (piece_nodes ws)).1 (
        (all_pieces Sound ws).1 (all_map (λ w o. o.0) ws own),
        (pairs_pieces Fine ws).1 (all_map (λ w o. o.1) ws own, every_two_map two_across ws p.1),
      ),
)
