-- Why it holds: A pair has its ancestor in some piece and its descendant in some piece. So the
-- listings of each ancestor piece with each descendant piece hold what the listing of the wholes
-- holds.
-- What would break it: A join of each piece with only the piece at its own position would lose
-- pairs and be caught here.
use Prim.Native.Nat.{ℕ}
use mathlib.Core.Path.{◌≡◌}
use mathlib.Core.Logic.{◌↔◌, inl, inr}
use mathlib.Core.Bool.{true}
use mathlib.Core.List.Memᴰ
use mathlib.Core.List.{List, [], ◌∷◌}
use Rattle.laws.specs.Choose.{All, In}
use Rattle.nodes.specs.declared.node.Node.{Node}
use Rattle.nodes.specs.Words.{nodes}
use Rattle.tickets.specs.Listing.{Pair, askedb, listing}
use Rattle.tickets.specs.Ticket.{Asked}
use Rattle.tickets.proofs.Listed.{listed_iff}
use Rattle.pieces.specs.Pieces.{whole, WholeNodes, with_each, each_with_each, pairs_of, piece_pairs}
use Rattle.pieces.proofs.Cutting.{piece_nodes, nodes_whole}

module _ (ask : Asked) (p : Pair) where
  -- The pair's nodes stand in the two lists, and it is asked for.
  abbrev Meets : List Node → List Node → Type 0
  Meets xs ys = In p.ancestor xs × In p.descendant ys × (askedb ask p ≡ true)

  pub with_iff : (a : List ℕ) (ds : List (List ℕ)) → In p (with_each (pairs_of ask) a ds) ↔ Meets (nodes a) (piece_nodes ds)
  unfolding with_each
  with_iff a [] = (λ m. absurd (Memᴰ.not-nil m), λ h. absurd (Memᴰ.not-nil h.1))
  with_iff a (d ∷ ds) =
      let here = listed_iff ask (nodes a) (nodes d) p in
      let later = with_iff a ds in (
        λ m. elim (Memᴰ.append_cases (listing ask (nodes a) (nodes d)) m) [
          | inl k ↦ let h = here.0 k in (h.0, Memᴰ.append_left _ h.1, h.2)
          | inr k ↦ let h = later.0 k in (h.0, Memᴰ.append_right (nodes d) h.1, h.2)
        ],
        λ h. elim (Memᴰ.append_cases (nodes d) h.1) [
          | inl k ↦ Memᴰ.append_left _ (here.1 (h.0, k, h.2))
          | inr k ↦ Memᴰ.append_right (listing ask (nodes a) (nodes d)) (later.1 (h.0, k, h.2))
        ],
      )

  pub pieces_iff : (as' ds : List (List ℕ)) → In p (piece_pairs ask as' ds) ↔ Meets (piece_nodes as') (piece_nodes ds)
  unfolding each_with_each
  pieces_iff [] ds = (λ m. absurd (Memᴰ.not-nil m), λ h. absurd (Memᴰ.not-nil h.0))
  pieces_iff (a ∷ as') ds =
      let here = with_iff a ds in
      let later = pieces_iff as' ds in (
        λ m. elim (Memᴰ.append_cases (with_each (pairs_of ask) a ds) m) [
          | inl k ↦ let h = here.0 k in (Memᴰ.append_left _ h.0, h.1, h.2)
          | inr k ↦ let h = later.0 k in (Memᴰ.append_right (nodes a) h.0, h.1, h.2)
        ],
        λ h. elim (Memᴰ.append_cases (nodes a) h.0) [
          | inl k ↦ Memᴰ.append_left _ (here.1 (k, h.1, h.2))
          | inr k ↦ Memᴰ.append_right (with_each (pairs_of ask) a ds) (later.1 (k, h.1, h.2))
        ],
      )

-- A pair is in the listing of the wholes exactly when it is in that of two pieces.
pub whole_pairs_lem : (ask : Asked) (as' ds : List (List ℕ)) → All WholeNodes as' → All WholeNodes ds → (p : Pair)
    → In p (listing ask (nodes (whole as')) (nodes (whole ds))) ↔ In p (piece_pairs ask as' ds)
whole_pairs_lem ask as' ds a d p =
    let met = pieces_iff ask p as' ds in
    rw (nodes_whole as' a, nodes_whole ds d) (
    let listed = listed_iff ask (piece_nodes as') (piece_nodes ds) p in
    (λ m. met.1 (listed.0 m), λ m. listed.1 (met.0 m)))
