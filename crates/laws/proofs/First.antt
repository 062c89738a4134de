-- Why it holds: `first_at` counts what fails before the first that passes. So a search that has
-- passed k elements adds k to what the rest says.
-- What would break it: An element passed over, or a count one off, would be caught here.
use Prim.Native.Nat.compare
use Prim.Native.Nat.{ℕ, zero, suc, ◌+◌, ◌≤◌, ◌<◌, zero-le}
use mathlib.Core.Path.{◌≡◌, refl, ap}
use mathlib.Core.Bool.{Bool, true, false}
use mathlib.Core.List.{List, [], ◌∷◌, ◌++◌}
use mathlib.Core.Logic.{inl, inr}
use native.Mathlib.Nat.{not-suc-le-zero}
use native.Mathlib.Omega.{arith}
use lib.Dec.{ltb}
use borrow.Author.Tests.{lt-ltb}
use lib.ListN.{length, get_or, take, drop}
use Rattle.laws.specs.Choose.{All, any, first_at}
use Rattle.laws.proofs.Tests.{either, never, not_so}

module _ {A : Type 0} (test : A → Bool) where
  pub first_hit : (x : A) (xs : List A) → test x ≡ true → first_at test (x ∷ xs) ≡ 0
  unfolding first_at
  first_hit x xs h = rw h refl

  pub first_miss : (x : A) (xs : List A) → test x ≡ false → first_at test (x ∷ xs) ≡ first_at test xs + 1
  unfolding first_at
  first_miss x xs h = rw h (omega arith)

  pub first_empty : first_at test [] ≡ 0
  unfolding first_at
  first_empty = refl

  -- The index lies in the list or at its end.
  pub first_in : (xs : List A) → first_at test xs ≤ length xs
  unfolding first_at
  first_in [] = zero-le
  first_in (x ∷ xs) = elim (either (test x)) [ inl h ↦ rw h zero-le | inr h ↦ rw h (let p = first_in xs in omega arith) ]

  -- Every element before it fails.
  pub first_failed : (xs : List A) → All (λ x. test x ≡ false) (take (first_at test xs) xs)
  unfolding first_at
  first_failed [] = tt
  first_failed (x ∷ xs) = elim (either (test x)) [ inl h ↦ rw h tt | inr h ↦ rw h (h, first_failed xs) ]

  -- A search that starts no later than the answer still finds it.
  pub first_from : (k : ℕ) (xs : List A) → k ≤ first_at test xs → first_at test (drop k xs) + k ≡ first_at test xs
  unfolding first_at
  first_from zero xs l = omega arith
  first_from (suc k) [] l = absurd (not-suc-le-zero l)
  first_from (suc k) (x ∷ xs) l =
      elim (either (test x)) [
        | inl h ↦ absurd (not-suc-le-zero (rw h at l))
        | inr h ↦ let m : suc k ≤ suc (first_at test xs) = rw h at l in
            rw h (let p = first_from k xs (omega arith) in omega arith)
      ]

-- If every element that passes `other` passes `test`, the first for `test` comes no later.
pub first_earlier : {A : Type 0} (test other : A → Bool) → ((x : A) → other x ≡ true → test x ≡ true) → (xs : List A)
    → first_at test xs ≤ first_at other xs
unfolding first_at
first_earlier test other f [] = zero-le
first_earlier test other f (x ∷ xs) =
    elim (either (test x)) [
      | inl h ↦ rw h zero-le
      | inr h ↦ rw (h, not_so (λ o. never (f x o) h)) (let p = first_earlier test other f xs in omega arith)
    ]

-- An element before the first that passes a test fails it.
pub before_first : {A : Type 0} (test : A → Bool) (xs : List A) (i : ℕ) (d : A) → i < first_at test xs → test (get_or xs i d) ≡ false
unfolding first_at
before_first test [] i d l = absurd (not-suc-le-zero l)
before_first test (x ∷ xs) zero d l = elim (either (test x)) [ inl h ↦ absurd (not-suc-le-zero (rw h at l)) | inr h ↦ h ]
before_first test (x ∷ xs) (suc i) d l =
    elim (either (test x)) [
      | inl h ↦ absurd (not-suc-le-zero (rw h at l))
      | inr h ↦ before_first test xs i d (let m : suc i < suc (first_at test xs) = rw h at l in omega arith)
    ]

-- The element at `first_at` passes the test.
pub first_passes : {A : Type 0} (test : A → Bool) (ns : List A) (n : A) → first_at test ns < length ns → test (get_or ns (first_at test ns) n) ≡ true
unfolding first_at
first_passes test [] n l = absurd (not-suc-le-zero l)
first_passes test (x ∷ ns) n l =
    elim (either (test x)) [ inl h ↦ rw (h, h) refl | inr h ↦ rw h (first_passes test ns n (let m = rw h at l in omega arith)) ]

-- `first_at` lies below the length exactly when some element passes.
pub first_there : {A : Type 0} (test : A → Bool) (xs : List A) → ltb (first_at test xs) (length xs) ≡ any test xs
unfolding any first_at
first_there test [] = refl
first_there test (x ∷ xs) =
    elim (either (test x)) [
      | inl h ↦ rw h (lt-ltb 0 (length (x ∷ xs)) (omega arith))
      | inr h ↦ rw (h, compare.suc-suc (suc (first_at test xs)) (length xs)) (first_there test xs)
    ]

-- An element that passes, with none before it that does, stands where the search stops.
pub first_split : {A : Type 0} (test : A → Bool) (before : List A) (u : A) (after : List A) → All (λ x. test x ≡ false) before → test u ≡ true
    → (any test (before ++ (u ∷ after)) ≡ true) × (first_at test (before ++ (u ∷ after)) ≡ length before)
unfolding any first_at
first_split test [] u after h t = (rw t, rw t)
first_split test (x ∷ before) u after h t =
    let rest = first_split test before u after h.1 t in
    (rw h.0 rest.0, rw h.0 (ap suc rest.1))
