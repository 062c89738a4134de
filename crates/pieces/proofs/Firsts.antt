-- Why it holds: In an ascending list the first n items are those with fewer than n below them. A
-- list that holds fewer items has no more below any of them.
-- What would break it: Lists that ascend by different keys, or an item that only one of them holds,
-- would be caught here.
use Prim.Native.Nat.{ℕ, zero, suc, ◌≤◌}
use mathlib.Core.Path.{◌≡◌, refl, sym, ap, subst, ◌∙◌}
use mathlib.Core.Logic.{inl, inr}
use mathlib.Core.Bool.{true, false}
use mathlib.Core.List.Memᴰ
use mathlib.Core.List.{List, [], ◌∷◌}
use native.Mathlib.Omega.{arith}
use lib.ListN.{length, take}
use Rattle.laws.specs.Choose.{All, In}
use Rattle.laws.proofs.Choices.{all_in, all_both, take_all_of}
use Rattle.laws.proofs.Tests.{never}
use Rattle.paging.specs.Key.{aboveb}
use Rattle.paging.proofs.Demand.{Ascends}
use Rattle.paging.proofs.KeyLaws.{above_self, above_trans}

module _ {A : Type 0} (key : A → List ℕ) where
  -- The key of y stands above that of x.
  abbrev Above : A → A → Type 0
  Above x y = aboveb (key y) (key x) ≡ true

  never_above : (x y : A) → y ≡ x → Above x y → ⊥
  never_above x y e a = never a (subst (λ z. aboveb (key z) (key x) ≡ false) (sym e) (above_self (key x)))

  -- A member above the head stands after it.
  past_head : (x : A) (xs : List A) (y : A) → In y (x ∷ xs) → Above x y → In y xs
  past_head x xs y m a = elim (Memᴰ.cases_cons m) [ inl e ↦ absurd (never_above x y e a) | inr k ↦ k ]

  module _ (x : A) (xs : List A) (h : Ascends key (x ∷ xs)) (y : A) (m : In y (x ∷ xs)) where
    -- What stands above a member stands above the head.
    above_head : (z : A) → Above y z → Above x z
    above_head z a =
        elim (Memᴰ.cases_cons m) [
          | inl e ↦ subst (λ u. Above u z) e a
          | inr k ↦ above_trans (key z) (key y) (key x) a (all_in (Above x) xs h.0 k)
        ]

    -- So all that an ascending list of members has after its head stands after the other's head.
    fewer : (ys : List A) → All (Above y) ys → All (λ z. In z (x ∷ xs)) ys → All (λ z. In z xs) ys
    fewer ys b s = all_both (λ z a l. past_head x xs z l (above_head z a)) ys b s

  -- An ascending list that holds no others is no longer.
  pub no_longer : (xs ys : List A) → Ascends key xs → Ascends key ys → All (λ y. In y xs) ys → length ys ≤ length xs
  no_longer xs [] h k s = omega arith
  no_longer [] (y ∷ ys) h k s = absurd (Memᴰ.not-nil s.0)
  no_longer (x ∷ xs) (y ∷ ys) h k s =
      let r = no_longer xs ys h.1 k.1 (fewer x xs h y s.0 ys k.0 s.1) in
      omega arith

  -- An item among the first n is among the first n of a list that holds no others.
  pub still_first : (n : ℕ) (xs ys : List A) → Ascends key xs → Ascends key ys → All (λ y. In y xs) ys → (p : A) → In p (take n xs) → In p ys
      → In p (take n ys)
  still_first zero xs ys h k s p m i = absurd (Memᴰ.not-nil m)
  still_first (suc n) [] ys h k s p m i = absurd (Memᴰ.not-nil m)
  still_first (suc n) (x ∷ xs) [] h k s p m i = absurd (Memᴰ.not-nil i)
  still_first (suc n) (x ∷ xs) (y ∷ ys) h k s p m i =
      elim (Memᴰ.cases_cons i) [
        | inl e ↦ Memᴰ.head e
        | inr j ↦ let a = above_head x xs h y s.0 p (all_in (Above y) ys k.0 j) in
            Memᴰ.tail (still_first n xs ys h.1 k.1 (fewer x xs h y s.0 ys k.0 s.1) p (past_head x (take n xs) p m a) j)
      ]

  -- A list that holds the first n and no others has the same first n.
  pub same_first : (n : ℕ) (xs ys : List A) → Ascends key xs → Ascends key ys → All (λ y. In y xs) ys → All (λ x. In x ys) (take n xs)
      → take n ys ≡ take n xs
  same_first zero xs ys h k s t = refl
  same_first (suc n) [] [] h k s t = refl
  same_first (suc n) [] (y ∷ ys) h k s t = absurd (Memᴰ.not-nil s.0)
  same_first (suc n) (x ∷ xs) [] h k s t = absurd (Memᴰ.not-nil t.0)
  same_first (suc n) (x ∷ xs) (y ∷ ys) h k s t =
      let e : x ≡ y = elim (Memᴰ.cases_cons t.0) [
        | inl e ↦ e
        | inr j ↦ absurd (never_above x x refl (above_head x xs h y s.0 x (all_in (Above y) ys k.0 j)))
      ] in
      let later = all_both (λ z a l. past_head y ys z l (subst (λ u. Above u z) e a)) (take n xs) (take_all_of (Above x) n xs h.0) t.1 in
      ap (λ z. z ∷ take n ys) (sym e)
      ∙ ap (λ zs. x ∷ zs) (same_first n xs ys h.1 k.1 (fewer x xs h y s.0 ys k.0 s.1) later)
