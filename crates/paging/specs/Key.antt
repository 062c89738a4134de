-- docs/SCOPE.md, "Listings and tickets": keys are lists of numbers, compared number by number as
-- words in a dictionary.
use Rattle.std.specs.Prelude.{ℕ, Bool, true, false, ◌&&◌, ◌||◌, List, [], ◌∷◌, ltb, eqb}

-- The first key stands above the second.
unfoldable pub aboveb : List ℕ → List ℕ → Bool
aboveb [] k = false
aboveb (m ∷ j) [] = true
aboveb (m ∷ j) (n ∷ k) = ltb n m || (eqb m n && aboveb j k)
