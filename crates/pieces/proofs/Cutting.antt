-- Why it holds: Where no cut goes through a node, the nodes of the whole are those of the pieces in
-- turn. So what holds of all of them, or of any two, holds within each piece and across any two
-- pieces.
-- What would break it: A piece left out, or a cut through a node, would be caught here.
use Prim.Native.Nat.{ℕ}
use mathlib.Core.Path.{◌≡◌, refl, ap, ◌∙◌}
use mathlib.Core.Logic.{◌↔◌}
use mathlib.Core.List.{List, [], ◌∷◌, ◌++◌}
use native.Mathlib.Omega.{arith}
use Rattle.laws.specs.Choose.{All, EveryTwo, In}
use Rattle.laws.proofs.Choices.{all_map, all_both, each_in, all_append, every_two_append}
use Rattle.nodes.specs.declared.node.Node.{Node}
use Rattle.nodes.specs.Words.{node, nodes}
use Rattle.pieces.specs.Checks.{Across}
use Rattle.pieces.specs.Pieces.{whole, WholeNodes}

module _ {A : Type 0} where
  -- What holds of each member of a list holds of all of it.
  pub each : (P : A → Type 0) (xs : List A) → ((x : A) → In x xs → P x) → All P xs
  each P xs f = all_map f xs (each_in xs)

  -- What holds of two lists in a row holds of each, and across.
  pub all_parts : (P : A → Type 0) (xs ys : List A) → All P (xs ++ ys) → All P xs × All P ys
  all_parts P [] ys h = (tt, h)
  all_parts P (x ∷ xs) ys h = let r = all_parts P xs ys h.1 in ((h.0, r.0), r.1)

  pub every_two_parts : (R : A → A → Type 0) (xs ys : List A) → EveryTwo R (xs ++ ys) → EveryTwo R xs × EveryTwo R ys × All (λ x. All (R x) ys) xs
  every_two_parts R [] ys h = (tt, h, tt)
  every_two_parts R (x ∷ xs) ys h =
      let a = all_parts (R x) xs ys h.0 in
      let r = every_two_parts R xs ys h.1 in
      ((a.0, r.0), r.1, (a.1, r.2))

  -- Two relations that hold of every earlier and later element give a third.
  pub every_two_both : {R S Q : A → A → Type 0} → ((x y : A) → R x y → S x y → Q x y) → (xs : List A) → EveryTwo R xs → EveryTwo S xs → EveryTwo Q xs
  every_two_both f [] h k = tt
  every_two_both f (x ∷ xs) h k = (all_both (f x) xs h.0 k.0, every_two_both f xs h.1 k.1)

-- What holds of each element of one list with each of another may be read from either list.
pub all_turned : {A B : Type 0} (R : A → B → Type 0) (xs : List A) (ys : List B) → All (λ x. All (R x) ys) xs → All (λ y. All (λ x. R x y) xs) ys
all_turned R xs [] h = tt
all_turned R xs (y ∷ ys) h = (all_map (λ x k. k.0) xs h, all_turned R xs ys (all_map (λ x k. k.1) xs h))

nodes_append : (v w : List ℕ) → WholeNodes v → nodes (v ++ w) ≡ nodes v ++ nodes w
unfolding nodes
nodes_append [] w h = refl
nodes_append (d ∷ []) w h = absurd (omega arith)
nodes_append (d ∷ s ∷ []) w h = absurd (omega arith)
nodes_append (d ∷ s ∷ e ∷ []) w h = absurd (omega arith)
nodes_append (d ∷ s ∷ e ∷ l ∷ v) w h = ap (λ ns. node d s e l ∷ ns) (nodes_append v w (omega arith))

-- The nodes of all pieces, one piece after the other.
abbrev pub piece_nodes : List (List ℕ) → List Node
piece_nodes [] = []
piece_nodes (w ∷ ws) = nodes w ++ piece_nodes ws

pub nodes_whole : (ws : List (List ℕ)) → All WholeNodes ws → nodes (whole ws) ≡ piece_nodes ws
unfolding whole nodes
nodes_whole [] h = refl
nodes_whole (w ∷ ws) h = nodes_append w (whole ws) h.0 ∙ ap (λ ns. nodes w ++ ns) (nodes_whole ws h.1)

-- What holds of every node holds within each piece, and the other way round.
pub all_pieces : (P : Node → Type 0) (ws : List (List ℕ)) → All P (piece_nodes ws) ↔ All (λ w. All P (nodes w)) ws
all_pieces P [] = (λ h. tt, λ h. tt)
all_pieces P (w ∷ ws) = (
  λ h. let r = all_parts P (nodes w) (piece_nodes ws) h in (r.0, (all_pieces P ws).0 r.1),
  λ h. all_append P (nodes w) (piece_nodes ws) h.0 ((all_pieces P ws).1 h.1),
)

-- What holds of each node of a piece and every node of the later pieces holds across the piece and
-- each later one, and the other way round.
module _ (R : Node → Node → Type 0) (w : List ℕ) (ws : List (List ℕ)) where
  pub to_later : All (λ e. All (R e) (piece_nodes ws)) (nodes w) → All (Across R w) ws
  to_later h = all_turned (λ e v. All (R e) (nodes v)) (nodes w) ws (all_map (λ e k. (all_pieces (R e) ws).0 k) (nodes w) h)

  pub from_later : All (Across R w) ws → All (λ e. All (R e) (piece_nodes ws)) (nodes w)
  from_later h = all_map (λ e k. (all_pieces (R e) ws).1 k) (nodes w) (all_turned (λ v e. All (R e) (nodes v)) ws (nodes w) h)

-- What holds of every earlier and later node holds within each piece and across any two, and the
-- other way round.
pub pairs_pieces : (R : Node → Node → Type 0) (ws : List (List ℕ))
    → EveryTwo R (piece_nodes ws) ↔ (All (λ w. EveryTwo R (nodes w)) ws × EveryTwo (Across R) ws)
pairs_pieces R [] = (λ h. (tt, tt), λ h. tt)
pairs_pieces R (w ∷ ws) = (
  λ h. let r = every_two_parts R (nodes w) (piece_nodes ws) h in
      let i = (pairs_pieces R ws).0 r.1 in
      ((r.0, i.0), (to_later R w ws r.2, i.1)),
  λ h. every_two_append R (nodes w) (piece_nodes ws) h.0.0 ((pairs_pieces R ws).1 (h.0.1, h.1.1)) (from_later R w ws h.1.0),
)
