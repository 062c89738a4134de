-- Why it holds: Keys are compared number by number, so no key stands above itself. A key above a
-- second one stands above all that the second stands above.
-- What would break it: A comparison that took an equal key for one above, or that skipped a number,
-- would be caught here.
use mathlib.Core.Path.{◌≡◌, refl, ◌∙◌}
use mathlib.Core.Logic.{◌⊎◌, inl, inr}
use mathlib.Core.Bool.{true, false, ◌&&◌}
use mathlib.Core.List.{List, [], ◌∷◌}
use Prim.Native.Nat.{ℕ, ◌<◌}
use native.Mathlib.Omega.{arith}
use lib.Dec.{ltb, eqb}
use borrow.Author.Tests.{ltb-true, eqb-true, lt-ltb, le-ltb, eq-eqb}
use Rattle.laws.proofs.Tests.{never, and_read, and_make, or_read, or_left, or_right}
use Rattle.paging.specs.Key.{aboveb}

-- No key stands above itself.
pub above_self : (k : List ℕ) → aboveb k k ≡ false
unfolding aboveb
above_self [] = refl
above_self (n ∷ k) = rw (le-ltb n n (omega arith), eq-eqb n n refl) (above_self k)

-- A key stands above another by its first number, or by the rest.
abbrev Over : ℕ → List ℕ → ℕ → List ℕ → Type 0
Over m j n k = (n < m) ⊎ ((m ≡ n) × (aboveb j k ≡ true))

over : (m : ℕ) (j : List ℕ) (n : ℕ) (k : List ℕ) → aboveb (m ∷ j) (n ∷ k) ≡ true → Over m j n k
unfolding aboveb
over m j n k h =
    elim (or_read (ltb n m) h) [
      | inl p ↦ inl (ltb-true n m p)
      | inr p ↦ let q = and_read (eqb m n) p in inr (eqb-true m n q.0, q.1)
    ]

first_above : (m : ℕ) (j : List ℕ) (n : ℕ) (k : List ℕ) → n < m → aboveb (m ∷ j) (n ∷ k) ≡ true
unfolding aboveb
first_above m j n k h = or_left (eqb m n && aboveb j k) (lt-ltb n m h)

rest_above : (m : ℕ) (j : List ℕ) (n : ℕ) (k : List ℕ) → m ≡ n → aboveb j k ≡ true → aboveb (m ∷ j) (n ∷ k) ≡ true
unfolding aboveb
rest_above m j n k e h = or_right (ltb n m) (and_make (eq-eqb m n e) h)

-- What stands above a key stands above all that the key stands above.
pub above_trans : (i j k : List ℕ) → aboveb i j ≡ true → aboveb j k ≡ true → aboveb i k ≡ true
unfolding aboveb
above_trans [] j k p q = absurd (never p refl)
above_trans (l ∷ i) [] k p q = absurd (never q refl)
above_trans (l ∷ i) (m ∷ j) [] p q = refl
above_trans (l ∷ i) (m ∷ j) (n ∷ k) p q =
    elim (over l i m j p) [
      | inl a ↦ elim (over m j n k q) [ inl b ↦ first_above l i n k (omega arith) | inr b ↦ first_above l i n k (omega arith) ]
      | inr a ↦ elim (over m j n k q) [
        | inl b ↦ first_above l i n k (omega arith)
        | inr b ↦ rest_above l i n k (a.0 ∙ b.0) (above_trans i j k a.1 b.1)
      ]
    ]
