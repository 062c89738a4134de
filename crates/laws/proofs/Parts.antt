-- Why it holds: A part of a list is the list with some elements left out, so each element of it
-- stands in the list, in the same order.
-- What would break it: A part with an element more, or with two in another order, would be caught
-- here. Nothing here knows a node.
use mathlib.Core.Path.{refl, sym, subst}
use mathlib.Core.Logic.{inl, inr}
use mathlib.Core.Bool.{Bool}
use mathlib.Core.List.Sublistᴰ
use mathlib.Core.List.{List, [], ◌∷◌, map}
use Prim.Native.Nat.{◌≤◌}
use native.Mathlib.Omega.{arith}
use lib.ListN.{length}
use Rattle.laws.specs.Choose.{All, EveryTwo, Part, keep}
use Rattle.laws.proofs.Tests.{either}

module _ {A : Type 0} where
  -- What holds of all elements, or of each and every later one, holds of a part.
  pub part_all : (P : A → Type 0) {xs ys : List A} → Part xs ys → All P ys → All P xs
  part_all P Sublistᴰ.slnil h = tt
  part_all P (Sublistᴰ.cons s) h = part_all P s h.1
  part_all P (Sublistᴰ.cons-cons e s) h = (subst P (sym e) h.0, part_all P s h.1)

  pub part_every_two : (R : A → A → Type 0) {xs ys : List A} → Part xs ys → EveryTwo R ys → EveryTwo R xs
  part_every_two R Sublistᴰ.slnil h = tt
  part_every_two R (Sublistᴰ.cons s) h = part_every_two R s h.1
  part_every_two R (Sublistᴰ.cons-cons {b = b} {l₁ = xs} e s) h =
      (subst (λ x. All (R x) xs) (sym e) (part_all (R b) s h.0), part_every_two R s h.1)

  -- A part is no longer than the whole.
  pub part_fewer : {xs ys : List A} → Part xs ys → length xs ≤ length ys
  part_fewer Sublistᴰ.slnil = omega arith
  part_fewer (Sublistᴰ.cons s) = let h = part_fewer s in omega arith
  part_fewer (Sublistᴰ.cons-cons e s) = let h = part_fewer s in omega arith

  -- What a test keeps is a part.
  pub kept_part : (test : A → Bool) (xs : List A) → Part (keep test xs) xs
  unfolding keep
  kept_part test [] = Sublistᴰ.slnil
  kept_part test (x ∷ xs) =
      elim (either (test x)) [
        | inl h ↦ rw h (Sublistᴰ.cons-cons refl (kept_part test xs))
        | inr h ↦ rw h (Sublistᴰ.cons (kept_part test xs))
      ]

pub part_mapped : {A B : Type 0} (f : A → B) {xs ys : List A} → Part xs ys → Part (map f xs) (map f ys)
part_mapped f Sublistᴰ.slnil = Sublistᴰ.slnil
part_mapped f (Sublistᴰ.cons s) = Sublistᴰ.cons (part_mapped f s)
part_mapped f (Sublistᴰ.cons-cons e s) = Sublistᴰ.cons-cons (λ i. f (e i)) (part_mapped f s)
