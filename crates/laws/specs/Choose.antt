-- Tests on lists of any kind: whether an element passes, which ones do, and where the first one
-- stands. Also what all elements of a list, or all pairs, have in common.
use Rattle.std.specs.Prelude.{ℕ, zero, suc, Bool, true, false, cond, ◌&&◌, ◌||◌, eqb}
use mathlib.Core.List.{List, [], ◌∷◌, Memᴰ, Sublistᴰ}

-- Whether some element of the list passes the test.
unfoldable pub any {ℓ} : {A : Type ℓ} → (A → Bool) → List A → Bool
any test [] = false
any test (x ∷ xs) = test x || any test xs

-- The elements that pass the test, in their order.
unfoldable pub keep {ℓ} : {A : Type ℓ} → (A → Bool) → List A → List A
keep test [] = []
keep test (x ∷ xs) = cond (test x) (x ∷ keep test xs) (keep test xs)

-- The index of the first element that passes the test, or the list's length where none does.
unfoldable pub first_at {ℓ} : {A : Type ℓ} → (A → Bool) → List A → ℕ
first_at test [] = zero
first_at test (x ∷ xs) = cond (test x) zero (suc (first_at test xs))

-- Whether two lists of numbers are equal: equally long, with the same number at each place.
unfoldable pub equalb : List ℕ → List ℕ → Bool
equalb [] [] = true
equalb [] (y ∷ ys) = false
equalb (x ∷ xs) [] = false
equalb (x ∷ xs) (y ∷ ys) = eqb x y && equalb xs ys

-- P holds of every element of the list. `All P` of three elements means: P of the first, and P of
-- the second, and P of the third. For an empty list there is nothing to hold.
abbrev pub All : {A : Type 0} → (A → Type 0) → List A → Type 0
All P [] = Unit {0}
All P (x ∷ xs) = P x × All P xs

-- R holds of each element and every later one. For the list a, b, c it means: R a b, and R a c, and
-- R b c. Nothing is said of an element and itself, nor of R b a.
abbrev pub EveryTwo : {A : Type 0} → (A → A → Type 0) → List A → Type 0
EveryTwo R [] = Unit {0}
EveryTwo R (x ∷ xs) = All (R x) xs × EveryTwo R xs

-- xs is ys with some elements left out, or with none left out.
abbrev pub Part : {A : Type 0} → List A → List A → Type 0
Part xs ys = Sublistᴰ xs ys

-- x stands somewhere in the list.
abbrev pub In : {A : Type 0} → A → List A → Type 0
In x xs = Memᴰ x xs
