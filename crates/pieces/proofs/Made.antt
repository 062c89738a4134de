-- Why it holds: What pieces make together is what each two of them make, one after the other. So
-- what holds of each part holds of all of it.
-- What would break it: Two pieces that are passed over would be caught here.
use Prim.Native.Nat.{ℕ}
use mathlib.Core.Logic.{inl, inr}
use mathlib.Core.List.Memᴰ
use mathlib.Core.List.{List, [], ◌∷◌}
use Rattle.laws.specs.Choose.{All, In}
use Rattle.laws.proofs.Choices.{all_append}
use Rattle.tickets.specs.Listing.{Pair}
use Rattle.pieces.specs.Pieces.{with_each, each_with_each}

-- What holds of all that any two pieces make holds of all that they make together.
module _ (P : Pair → Type 0) (make : List ℕ → List ℕ → List Pair) where
  with_all : (a : List ℕ) (ds : List (List ℕ)) → All (λ d. All P (make a d)) ds → All P (with_each make a ds)
  unfolding with_each
  with_all a [] h = tt
  with_all a (d ∷ ds) h = all_append P (make a d) (with_each make a ds) h.0 (with_all a ds h.1)

  pub each_all : (as' ds : List (List ℕ)) → All (λ a. All (λ d. All P (make a d)) ds) as' → All P (each_with_each make as' ds)
  unfolding each_with_each
  each_all [] ds h = tt
  each_all (a ∷ as') ds h = all_append P (with_each make a ds) (each_with_each make as' ds) (with_all a ds h.0) (each_all as' ds h.1)

-- If any two pieces that make a pair by f make it by g too, then so do all pieces together.
module _ (p : Pair) (f g : List ℕ → List ℕ → List Pair) where
  with_again : (a : List ℕ) (ds : List (List ℕ)) → All (λ d. In p (f a d) → In p (g a d)) ds → In p (with_each f a ds) → In p (with_each g a ds)
  unfolding with_each
  with_again a [] h m = m
  with_again a (d ∷ ds) h m =
      elim (Memᴰ.append_cases (f a d) m) [
        | inl k ↦ Memᴰ.append_left _ (h.0 k)
        | inr k ↦ Memᴰ.append_right (g a d) (with_again a ds h.1 k)
      ]

  pub each_again : (as' ds : List (List ℕ)) → All (λ a. All (λ d. In p (f a d) → In p (g a d)) ds) as'
      → In p (each_with_each f as' ds) → In p (each_with_each g as' ds)
  unfolding each_with_each
  each_again [] ds h m = m
  each_again (a ∷ as') ds h m =
      elim (Memᴰ.append_cases (with_each f a ds) m) [
        | inl k ↦ Memᴰ.append_left _ (with_again a ds h.0 k)
        | inr k ↦ Memᴰ.append_right (with_each g a ds) (each_again as' ds h.1 k)
      ]
