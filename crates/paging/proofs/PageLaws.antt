-- Why it holds: What remains is chosen item by item, so what remains of two parts is what remains
-- of each. The place reached is that of the last item handed out.
-- What would break it: An item that remained because of its neighbour, or a place that was not the
-- last item's, would be caught here.
use mathlib.Core.Path.{◌≡◌, refl}
use mathlib.Core.List.{List, [], ◌∷◌, ◌++◌}
use Prim.Native.Nat.{ℕ}
use Rattle.laws.proofs.Choices.{keep_append}
use Rattle.paging.specs.Page.{Spot, pastb, remains, reached}

-- What remains of two listings in a row is what remains of each.
pub remains_append : {A : Type 0} (key : A → List ℕ) (place : Spot) (xs ys : List A)
    → remains key place (xs ++ ys) ≡ remains key place xs ++ remains key place ys
unfolding remains
remains_append key place xs ys = keep_append (λ x. pastb place (key x)) xs ys

-- A function of the place reached is the place reached with that function applied to every mark.
pub reached_map : {A P Q : Type 0} (f : P → Q) (mark : A → P) (place : P) (xs : List A)
    → f (reached mark place xs) ≡ reached (λ x. f (mark x)) (f place) xs
unfolding reached
reached_map f mark place [] = refl
reached_map f mark place (x ∷ xs) = reached_map f mark (mark x) xs
