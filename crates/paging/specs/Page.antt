-- docs/SCOPE.md, "Listings and tickets": what remains of a listing past a place, the first of it
-- that fits, the new place, and done.
use Rattle.std.specs.Prelude.{ℕ, Bool, true, List, [], ◌∷◌, eqb, length, take}
use Rattle.laws.specs.Choose.{keep}
use Rattle.paging.specs.Key.{aboveb}

-- The place reached: fresh, or the key of the last item handed out.
pub data Spot : Type 0 where
  fresh : Spot
  after : List ℕ → Spot

-- The key lies past the place. Past a fresh place lies every key; past another lie the keys above
-- its own.
unfoldable pub pastb : Spot → List ℕ → Bool
pastb fresh k = true
pastb (after j) k = aboveb k j

module _ {A : Type 0} (key : A → List ℕ) where
  -- What remains of a listing past a place.
  unfoldable pub remains : Spot → List A → List A
  remains place xs = keep (λ x. pastb place (key x)) xs

  -- The first of what remains, as many as fit.
  unfoldable pub handed : Spot → ℕ → List A → List A
  handed place room xs = take room (remains place xs)

  -- The call is done: all that remained was handed out.
  unfoldable pub doneb : Spot → ℕ → List A → Bool
  doneb place room xs = eqb (length (handed place room xs)) (length (remains place xs))

-- The new place: that of the last item handed out, or the old one when there was none.
unfoldable pub reached : {A P : Type 0} → (A → P) → P → List A → P
reached mark place [] = place
reached mark place (x ∷ xs) = reached mark (mark x) xs
