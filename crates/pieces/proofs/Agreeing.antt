-- Why it holds: Whether two nodes of two lists are at odds does not depend on where the lists are
-- cut. So the wholes agree exactly when each piece of one agrees with each piece of the other.
-- What would break it: A piece that was compared with fewer than all pieces of the other list would
-- be caught here.
use Prim.Native.Nat.{ℕ}
use mathlib.Core.Path.{◌≡◌}
use mathlib.Core.Logic.{◌↔◌}
use mathlib.Core.Bool.{false}
use mathlib.Core.List.{List}
use Rattle.laws.specs.Choose.{All}
use Rattle.laws.proofs.Choices.{all_map, all_both}
use Rattle.nodes.specs.declared.node.Node.{Node}
use Rattle.nodes.specs.Words.{nodes}
use Rattle.lists.specs.Two.{oddsb, jointb}
use Rattle.lists.proofs.Merging.{Even, joint_iff}
use Rattle.lists.proofs.Pairing.{two_taken_iff}
use Rattle.pieces.specs.Checks.{DrawsNone, Fits, TakenTogether, PiecesPass}
use Rattle.pieces.specs.Pieces.{whole, WholeNodes}
use Rattle.pieces.proofs.Checking.{fit_whole, whole_checked}
use Rattle.pieces.proofs.Cutting.{piece_nodes, nodes_whole, all_pieces, to_later, from_later}

-- Two nodes are not at odds.
abbrev Agree : Node → Node → Type 0
Agree x y = oddsb x y ≡ false

even_pieces : (as' ds : List (List ℕ)) → Even (piece_nodes as') (piece_nodes ds) ↔ All (λ a. All (λ d. Even (nodes a) (nodes d)) ds) as'
even_pieces as' ds =
    let split = all_pieces (λ x. All (Agree x) (piece_nodes ds)) as' in
    (λ h. all_map (λ a k. to_later Agree a ds k) as' (split.0 h), λ h. split.1 (all_map (λ a k. from_later Agree a ds k) as' h))

-- The wholes agree exactly when each piece agrees with each piece.
pub whole_agrees : (as' ds : List (List ℕ)) → All WholeNodes as' → All WholeNodes ds
    → (jointb (nodes (whole as')) (nodes (whole ds)) ≡ false) ↔ All (λ a. All (λ d. jointb (nodes a) (nodes d) ≡ false) ds) as'
whole_agrees as' ds h k =
    let wholes = joint_iff (piece_nodes as') (piece_nodes ds) in
    let cut = even_pieces as' ds in
    rw (nodes_whole as' h, nodes_whole ds k) (
      λ j. all_map (λ a e. all_map (λ d f. (joint_iff (nodes a) (nodes d)).1 f) ds e) as' (cut.0 (wholes.0 j)),
      λ j. wholes.1 (cut.1 (all_map (λ a e. all_map (λ d f. (joint_iff (nodes a) (nodes d)).0 f) ds e) as' j)),
    )

-- Both wholes draw no answer of 3 to 8 exactly when the pieces of each pass, and each piece of one
-- is taken together with each piece of the other.
pub both_checked : (as' ds : List (List ℕ)) → All Fits as' → All Fits ds
    → (DrawsNone (whole as') × DrawsNone (whole ds) × (jointb (nodes (whole as')) (nodes (whole ds)) ≡ false))
    ↔ (PiecesPass as' × PiecesPass ds × All (λ a. All (λ d. TakenTogether a d) ds) as')
both_checked as' ds h k =
    let agrees = whole_agrees as' ds (fit_whole as' h) (fit_whole ds k) in (
      λ t. let p = (whole_checked as' h).0 t.0 in
          let q = (whole_checked ds k).0 t.1 in (
            p,
            q,
            all_both (λ a s j. all_both (λ d u f. (two_taken_iff a d).1 (s, u, (joint_iff (nodes a) (nodes d)).0 f)) ds q.0 j)
                as' p.0 (agrees.0 t.2),
          ),
      λ t. (
        (whole_checked as' h).1 t.0,
        (whole_checked ds k).1 t.1,
        agrees.1 (all_map (λ a u. all_map (λ d v. (joint_iff (nodes a) (nodes d)).1 ((two_taken_iff a d).0 v).2) ds u) as' t.2),
      ),
    )
