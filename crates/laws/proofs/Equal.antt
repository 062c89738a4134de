-- Why it holds: The test goes along both lists at once and compares number by number.
-- What would break it: A test that ended with the shorter list, or passed over a number, would be
-- caught here.
use mathlib.Core.Path.{◌≡◌, refl}
use mathlib.Core.Bool.{true}
use mathlib.Core.List.{List, [], ◌∷◌}
use Prim.Native.Nat.{ℕ}
use lib.Dec.{eqb}
use borrow.Author.Tests.{eqb-true, eq-eqb}
use Rattle.laws.specs.Choose.{equalb}
use Rattle.laws.proofs.Tests.{never, and_read, and_make}

-- Lists of numbers that pass the test are equal.
pub equal_read : (xs ys : List ℕ) → equalb xs ys ≡ true → xs ≡ ys
unfolding equalb
equal_read [] [] h = refl
equal_read [] (y ∷ ys) h = absurd (never h refl)
equal_read (x ∷ xs) [] h = absurd (never h refl)
equal_read (x ∷ xs) (y ∷ ys) h = let p = and_read (eqb x y) h in rw (eqb-true x y p.0, equal_read xs ys p.1)

-- A list passes the test with itself.
pub equal_self : (xs : List ℕ) → equalb xs xs ≡ true
unfolding equalb
equal_self [] = refl
equal_self (x ∷ xs) = and_make (eq-eqb x x refl) (equal_self xs)
