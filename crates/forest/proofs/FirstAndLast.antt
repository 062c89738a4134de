-- Why it holds: The first and the last number that pass a test are found among the numbers below a
-- bound. If none passes the answer is NONE, which is none of them.
-- What would break it: A search that ran one number short, or took NONE for a number, would be
-- caught here.
use mathlib.Core.Path.{◌≡◌, refl, sym, ap, subst, ◌∙◌}
use mathlib.Core.Logic.{◌⊎◌, inl, inr}
use mathlib.Core.Bool.{Bool, true, false, cond}
use mathlib.Core.List.Memᴰ
use mathlib.Core.List.{List, [], ◌∷◌, ◌++◌}
use Prim.Native.Nat.{ℕ, zero, suc, ◌≤◌, ◌<◌}
use native.Mathlib.Nat.{not-suc-le-zero, eq-or-lt_of_le}
use native.Mathlib.Omega.{arith}
use lib.Dec.{eqb}
use borrow.Author.Tests.{eqb-true, eqb-false}
use Rattle.laws.specs.Choose.{All, EveryTwo, In}
use Rattle.laws.proofs.Choices.{every_two_append}
use Rattle.laws.proofs.Tests.{either, never}
use Rattle.forest.specs.Links.{NONE, up_to, first_of}

-- A number is NONE or not.
pub none_or_not : (r : ℕ) → (r ≡ NONE) ⊎ (r ≡ NONE → ⊥)
none_or_not r = elim (either (eqb r NONE)) [ inl h ↦ inl (eqb-true r NONE h) | inr h ↦ inr (eqb-false r NONE h) ]

-- A number below the successor of `n` is `n` or below it.
pub last_or_below : {n j : ℕ} → j < suc n → (j ≡ n) ⊎ (j < n)
last_or_below k = elim (eq-or-lt_of_le k) [ inl e ↦ inl (omega arith) | inr e ↦ inr (omega arith) ]

-- What holds of each number below a bound holds of all of them.
all_next : (P : ℕ → Type 0) (xs : List ℕ) (x : ℕ) → All P xs → P x → All P (xs ++ x ∷ [])
all_next P [] x h p = (p, tt)
all_next P (y ∷ xs) x h p = (h.0, all_next P xs x h.1 p)

pub all_up : (P : ℕ → Type 0) (n : ℕ) → ((j : ℕ) → j < n → P j) → All P (up_to n)
unfolding up_to
all_up P zero f = tt
all_up P (suc n) f = all_next P (up_to n) n (all_up P n (λ j l. f j (omega arith))) (f n (omega arith))

-- Each number below a bound is among them, and they rise.
pub in_up : (n j : ℕ) → j < n → In j (up_to n)
unfolding up_to
in_up zero j l = absurd (not-suc-le-zero l)
in_up (suc n) j l =
    elim (last_or_below l) [
      | inl e ↦ Memᴰ.append_right (up_to n) (Memᴰ.head e)
      | inr k ↦ Memᴰ.append_left _ (in_up n j k)
    ]

pub up_rises : (n : ℕ) → EveryTwo (λ a b. a < b) (up_to n)
unfolding up_to
up_rises zero = tt
up_rises (suc n) =
    every_two_append (λ a b. a < b) (up_to n) (n ∷ []) (up_rises n) (tt, tt) (all_up (λ a. All (λ b. a < b) (n ∷ [])) n (λ j l. (l, tt)))

-- r is the first of the numbers below `bound` that passes a test, or NONE if none does.
pub record First (test : ℕ → Bool) (bound r : ℕ) : Type 0 where
  pub found : (r ≡ NONE → ⊥) → (r < bound) × (test r ≡ true)
  pub first : (j : ℕ) → j < bound → ((r ≡ NONE → ⊥) → j < r) → test j ≡ false

-- r is the last of them, or NONE if none does.
pub record Last (test : ℕ → Bool) (bound r : ℕ) : Type 0 where
  pub found : (r ≡ NONE → ⊥) → (r < bound) × (test r ≡ true)
  pub last : (j : ℕ) → j < bound → ((r ≡ NONE → ⊥) → r < j) → test j ≡ false

module _ (test : ℕ → Bool) where
  -- A search goes on into a second list only if it found nothing in the first.
  stays : (xs ys : List ℕ) → (first_of test xs ≡ NONE → ⊥) → first_of test (xs ++ ys) ≡ first_of test xs
  unfolding first_of
  stays [] ys h = absurd (h refl)
  stays (x ∷ xs) ys h = elim (either (test x)) [ inl t ↦ rw t refl | inr t ↦ rw t (stays xs ys (rw t at h)) ]

  goes_on : (xs ys : List ℕ) → All (λ x. test x ≡ false) xs → first_of test (xs ++ ys) ≡ first_of test ys
  unfolding first_of
  goes_on [] ys h = refl
  goes_on (x ∷ xs) ys h = rw h.0 (goes_on xs ys h.1)

  module _ {n r : ℕ} (f : First test n r) where
    first_stays : (r ≡ NONE → ⊥) → First test (suc n) r
    first_stays h =
        let b = f.found h in
        record { found = λ k. (omega (arith, b.0), b.1); first = λ j k l. f.first j (omega (arith, b.0, l h)) l }

    first_fails : test n ≡ false → First test (suc n) r
    first_fails t = record {
      found = λ k. (omega (arith, (f.found k).0), (f.found k).1);
      first = λ j k l. elim (last_or_below k) [ inl e ↦ ap test e ∙ t | inr e ↦ f.first j e l ];
    }

    first_next : r ≡ NONE → n < NONE → test n ≡ true → First test (suc n) n
    first_next e m t = record { found = λ k. (omega arith, t); first = λ j k l. f.first j (l (λ z. omega arith)) (λ h. absurd (h e)) }

  nothing_first : (n : ℕ) → ((j : ℕ) → j < n → test j ≡ false) → First test n NONE
  nothing_first n f = record { found = λ h. absurd (h refl); first = λ j k h. f j k }

  pub first_of_lem : (n : ℕ) → n ≤ NONE → First test n (first_of test (up_to n))
  unfolding up_to first_of
  first_of_lem zero l = nothing_first zero (λ j k. absurd (not-suc-le-zero k))
  first_of_lem (suc n) l =
      let f = first_of_lem n (omega arith) in
      elim (none_or_not (first_of test (up_to n))) [
        | inr h ↦ subst (First test (suc n)) (sym (stays (up_to n) (n ∷ []) h)) (first_stays f h)
        | inl h ↦ let none : All (λ x. test x ≡ false) (up_to n) = all_up _ n (λ j k. f.first j k (λ z. absurd (z h))) in
            rw (goes_on (up_to n) (n ∷ []) none)
            (elim (either (test n)) [
              | inl t ↦ rw t (first_next f h (omega arith) t)
              | inr t ↦ rw t (subst (First test (suc n)) h (first_fails f t))
            ])
      ]

  -- Of two first numbers found, neither stands before the other.
  none_before : {n r s : ℕ} → First test n r → First test n s → (r ≡ NONE → ⊥) → ((s ≡ NONE → ⊥) → r < s) → ⊥
  none_before {n} {r} {s} f g h l = never (f.found h).1 (g.first r (f.found h).0 l)

  -- There is only one first number.
  first_same : {n r s : ℕ} → First test n r → First test n s → r ≡ s
  first_same {n} {r} {s} f g =
      elim (none_or_not r) [
        | inl p ↦ elim (none_or_not s) [ inl q ↦ p ∙ sym q | inr q ↦ absurd (none_before g f q (λ z. absurd (z p))) ]
        | inr p ↦ elim (none_or_not s) [
          | inl q ↦ absurd (none_before f g p (λ z. absurd (z q)))
          | inr q ↦ let a : r < s → ⊥ = λ l. none_before f g p (λ z. l) in
              let b : s < r → ⊥ = λ l. none_before g f q (λ z. l) in
              omega (arith, a, b)
        ]
      ]

  pub first_is : {n r : ℕ} → n ≤ NONE → First test n r → first_of test (up_to n) ≡ r
  first_is l f = first_same (first_of_lem _ l) f

  pub first_none : (n : ℕ) → n ≤ NONE → ((j : ℕ) → j < n → test j ≡ false) → first_of test (up_to n) ≡ NONE
  first_none n l f = first_is l (nothing_first n f)

  -- If none was found, none passes.
  pub none_found : (n : ℕ) → n ≤ NONE → first_of test (up_to n) ≡ NONE → (j : ℕ) → j < n → test j ≡ false
  none_found n l e j k = (first_of_lem n l).first j k (λ h. absurd (h e))

  -- One number more changes what was found only if nothing was found and it passes.
  pub first_kept : (n : ℕ) → suc n ≤ NONE → (test n ≡ true → first_of test (up_to n) ≡ NONE → ⊥) → first_of test (up_to (suc n)) ≡ first_of test (up_to n)
  first_kept n l h =
      let f = first_of_lem n (omega arith) in
      elim (either (test n)) [ inl t ↦ first_is l (first_stays f (h t)) | inr t ↦ first_is l (first_fails f t) ]

  pub first_added : (n : ℕ) → suc n ≤ NONE → test n ≡ true → ((j : ℕ) → j < n → test j ≡ false) → first_of test (up_to (suc n)) ≡ n
  first_added n l t f = first_is l (first_next (nothing_first n f) refl l t)

  -- The last of the numbers below a bound that passes, or NONE.
  pub last_of : ℕ → ℕ
  last_of zero = NONE
  last_of (suc n) = cond (test n) n (last_of n)

  pub last_of_lem : (n : ℕ) → n ≤ NONE → Last test n (last_of n)
  unfolding last_of
  last_of_lem zero l = record { found = λ h. absurd (h refl); last = λ j k h. absurd (not-suc-le-zero k) }
  last_of_lem (suc n) l =
      let f = last_of_lem n (omega arith) in
      elim (either (test n)) [
        | inl t ↦ rw t (record { found = λ h. (omega arith, t); last = λ j k h. absurd (omega (arith, h (λ e. omega arith))) })
        | inr t ↦ rw t (record {
          found = λ h. (omega (arith, (f.found h).0), (f.found h).1);
          last = λ j k h. elim (last_or_below k) [ inl e ↦ ap test e ∙ t | inr e ↦ f.last j e h ];
        })
      ]
