-- Why it holds: `any` and `keep` go along a list once, so each fact is one short recursion.
-- What would break it: An `any` or a `keep` that passed over an element would be caught here.
-- Nothing here knows a node.
use mathlib.Core.Path.{◌≡◌, refl, ap, sym, subst, ◌∙◌}
use mathlib.Core.Logic.{◌⊎◌, inl, inr}
use mathlib.Core.Bool.{Bool, true, false}
use mathlib.Core.List.Memᴰ
use mathlib.Core.List.{List, [], ◌∷◌, ◌++◌, map, append-nil, reverse, reverse-cons}
use Prim.Native.Nat.{ℕ, zero, suc, ◌≤◌, ◌<◌}
use native.Mathlib.Nat.{not-suc-le-zero}
use native.Mathlib.Omega.{arith}
use lib.ListN.{length, get_or, take, drop}
use Rattle.laws.specs.Choose.{All, EveryTwo, In, any, keep}
use Rattle.laws.proofs.Parts.{part_all, part_every_two, part_fewer, kept_part}
use Rattle.laws.proofs.Tests.{either, never, or_read, or_none}

module _ {A : Type 0} where
  pub all_of : {P : A → Type 0} → ((x : A) → P x) → (xs : List A) → All P xs
  all_of f [] = tt
  all_of f (x ∷ xs) = (f x, all_of f xs)

  pub all_map : {P Q : A → Type 0} → ((x : A) → P x → Q x) → (xs : List A) → All P xs → All Q xs
  all_map f [] h = tt
  all_map f (x ∷ xs) h = (f x h.0, all_map f xs h.1)

  pub all_both : {P Q R : A → Type 0} → ((x : A) → P x → Q x → R x) → (xs : List A) → All P xs → All Q xs → All R xs
  all_both f [] h k = tt
  all_both f (x ∷ xs) h k = (f x h.0 k.0, all_both f xs h.1 k.1)

  -- What holds of all holds of one that stands in the list.
  pub all_in : (P : A → Type 0) {x : A} (xs : List A) → All P xs → In x xs → P x
  all_in P [] h m = absurd (Memᴰ.not-nil m)
  all_in P (y ∷ xs) h m = elim (Memᴰ.cases_cons m) [ inl e ↦ subst P (sym e) h.0 | inr k ↦ all_in P xs h.1 k ]

  -- If `any` says no, no element passes the test.
  pub any_none : (test : A → Bool) (xs : List A) → any test xs ≡ false → All (λ x. test x ≡ false) xs
  unfolding any
  any_none test [] h = tt
  any_none test (x ∷ xs) h = let p = or_none (test x) h in (p.0, any_none test xs p.1)

  pub none_any : (test : A → Bool) (xs : List A) → All (λ x. test x ≡ false) xs → any test xs ≡ false
  unfolding any
  none_any test [] h = refl
  none_any test (x ∷ xs) h = rw h.0 (none_any test xs h.1)

  -- Whether a list has an element.
  some : List A → Bool
  some [] = false
  some (x ∷ xs) = true

  any_kept : (test : A → Bool) (xs : List A) → any test xs ≡ some (keep test xs)
  unfolding any keep some
  any_kept test [] = refl
  any_kept test (x ∷ xs) = elim (either (test x)) [ inl h ↦ rw h refl | inr h ↦ rw h (any_kept test xs) ]

  -- Two lists of which the same elements are kept give `any` the same answer.
  pub any_same : (test : A → Bool) (xs ys : List A) → keep test xs ≡ keep test ys → any test xs ≡ any test ys
  any_same test xs ys h = any_kept test xs ∙ ap some h ∙ sym (any_kept test ys)

  -- Tests that agree on all elements give `any` the same answer and keep the same elements.
  pub any_alike : (f g : A → Bool) (xs : List A) → All (λ x. f x ≡ g x) xs → any f xs ≡ any g xs
  unfolding any
  any_alike f g [] h = refl
  any_alike f g (x ∷ xs) h = rw (h.0, any_alike f g xs h.1)

  pub keep_alike : (f g : A → Bool) (xs : List A) → All (λ x. f x ≡ g x) xs → keep f xs ≡ keep g xs
  unfolding keep
  keep_alike f g [] h = refl
  keep_alike f g (x ∷ xs) h = rw (h.0, keep_alike f g xs h.1)

  pub keep_failed : (test : A → Bool) (x : A) (xs : List A) → test x ≡ false → keep test (x ∷ xs) ≡ keep test xs
  unfolding keep
  keep_failed test x xs h = rw h

  -- What is kept of two lists in a row is what is kept of the first, then of the second.
  pub keep_append : (test : A → Bool) (xs ys : List A) → keep test (xs ++ ys) ≡ keep test xs ++ keep test ys
  unfolding keep
  keep_append test [] ys = refl
  keep_append test (x ∷ xs) ys =
      elim (either (test x)) [ inl h ↦ rw h (ap (λ zs. x ∷ zs) (keep_append test xs ys)) | inr h ↦ rw h (keep_append test xs ys) ]

  -- A test that no element passes keeps nothing; one that all elements pass keeps the whole list.
  pub keep_none : (test : A → Bool) (xs : List A) → All (λ x. test x ≡ false) xs → keep test xs ≡ []
  unfolding keep
  keep_none test [] h = refl
  keep_none test (x ∷ xs) h = rw h.0 (keep_none test xs h.1)

  pub keep_all : (test : A → Bool) (xs : List A) → All (λ x. test x ≡ true) xs → keep test xs ≡ xs
  unfolding keep
  keep_all test [] h = refl
  keep_all test (x ∷ xs) h = rw h.0 (ap (λ zs. x ∷ zs) (keep_all test xs h.1))

  -- No more elements are kept than there are.
  pub keep_fewer : (test : A → Bool) (xs : List A) → length (keep test xs) ≤ length xs
  keep_fewer test xs = part_fewer (kept_part test xs)

  -- What holds of all elements holds of all that are kept.
  pub keep_all_of : (P : A → Type 0) (test : A → Bool) (xs : List A) → All P xs → All P (keep test xs)
  keep_all_of P test xs h = part_all P (kept_part test xs) h

  -- Each element of a list stands in it.
  pub each_in : (xs : List A) → All (λ x. In x xs) xs
  each_in [] = tt
  each_in (x ∷ xs) = (Memᴰ.head refl, all_map (λ y m. Memᴰ.tail m) xs (each_in xs))

  -- What holds of all elements holds of the first n.
  pub take_all_of : (P : A → Type 0) (n : ℕ) (xs : List A) → All P xs → All P (take n xs)
  take_all_of P zero xs h = tt
  take_all_of P (suc n) [] h = tt
  take_all_of P (suc n) (x ∷ xs) h = (h.0, take_all_of P n xs h.1)

  -- An element that passes is kept.
  pub keep_in : (test : A → Bool) (xs : List A) (x : A) → In x xs → test x ≡ true → In x (keep test xs)
  unfolding keep
  keep_in test [] x m t = absurd (Memᴰ.not-nil m)
  keep_in test (y ∷ xs) x m t =
      elim (Memᴰ.cases_cons m) [
        | inl e ↦ rw (subst (λ z. test z ≡ true) e t) (Memᴰ.head e)
        | inr k ↦ elim (either (test y)) [ inl h ↦ rw h (Memᴰ.tail (keep_in test xs x k t)) | inr h ↦ rw h (keep_in test xs x k t) ]
      ]

  -- All that are kept pass.
  pub keep_past : (test : A → Bool) (xs : List A) → All (λ x. test x ≡ true) (keep test xs)
  unfolding keep
  keep_past test [] = tt
  keep_past test (x ∷ xs) = elim (either (test x)) [ inl h ↦ rw h (h, keep_past test xs) | inr h ↦ rw h (keep_past test xs) ]

  -- What holds of each element and every later one also holds among those kept.
  pub keep_every_two : (R : A → A → Type 0) (test : A → Bool) (xs : List A) → EveryTwo R xs → EveryTwo R (keep test xs)
  keep_every_two R test xs h = part_every_two R (kept_part test xs) h

  -- If R implies S, then where R holds of each element and every later one, so does S.
  pub every_two_map : {R S : A → A → Type 0} → ((x y : A) → R x y → S x y) → (xs : List A) → EveryTwo R xs → EveryTwo S xs
  every_two_map f [] h = tt
  every_two_map f (x ∷ xs) h = (all_map (f x) xs h.0, every_two_map f xs h.1)

  -- Two elements of a list are the same, or R holds of them one way or the other.
  pub every_two_in : (R : A → A → Type 0) (xs : List A) (x y : A) → EveryTwo R xs → In x xs → In y xs → (x ≡ y) ⊎ (R x y ⊎ R y x)
  every_two_in R [] x y h m n = absurd (Memᴰ.not-nil m)
  every_two_in R (z ∷ xs) x y h m n =
      elim (Memᴰ.cases_cons m) [
        | inl p ↦ elim (Memᴰ.cases_cons n) [
          | inl q ↦ inl (p ∙ sym q)
          | inr q ↦ inr (inl (subst (λ u. R u y) (sym p) (all_in (R z) xs h.0 q)))
        ]
        | inr p ↦ elim (Memᴰ.cases_cons n) [
          | inl q ↦ inr (inr (subst (λ u. R u x) (sym q) (all_in (R z) xs h.0 p)))
          | inr q ↦ every_two_in R xs x y h.1 p q
        ]
      ]

  -- What holds of all holds at an index, and the other way round.
  pub all_at : (P : A → Type 0) (xs : List A) (i : ℕ) (d : A) → i < length xs → All P xs → P (get_or xs i d)
  all_at P [] i d l h = absurd (not-suc-le-zero l)
  all_at P (x ∷ xs) zero d l h = h.0
  all_at P (x ∷ xs) (suc i) d l h = all_at P xs i d (omega arith) h.1

  pub at_all : (P : A → Type 0) (xs : List A) (d : A) → ((i : ℕ) → i < length xs → P (get_or xs i d)) → All P xs
  at_all P [] d f = tt
  at_all P (x ∷ xs) d f = (f zero (omega arith), at_all P xs d (λ i l. f (suc i) (omega arith)))

  -- What holds of each element and every later one holds of those at two ascending indices.
  pub every_two_at : (R : A → A → Type 0) (xs : List A) (k i : ℕ) (d : A) → k < i → i < length xs → EveryTwo R xs → R (get_or xs k d) (get_or xs i d)
  every_two_at R [] k i d l m h = absurd (not-suc-le-zero m)
  every_two_at R (x ∷ xs) k zero d l m h = absurd (not-suc-le-zero l)
  every_two_at R (x ∷ xs) zero (suc i) d l m h = all_at (R x) xs i d (omega arith) h.0
  every_two_at R (x ∷ xs) (suc k) (suc i) d l m h = every_two_at R xs k i d (omega arith) (omega arith) h.1

  -- The first n elements are at most n, and at most as many as the list has.
  pub few_taken : (n : ℕ) (xs : List A) → (length (take n xs) ≤ n) × (length (take n xs) ≤ length xs)
  few_taken zero xs = (omega arith, omega arith)
  few_taken (suc n) [] = (omega arith, omega arith)
  few_taken (suc n) (x ∷ xs) = let h = few_taken n xs in (omega (arith, h.0), omega (arith, h.1))

  -- What holds of all of two lists holds of all of both in a row.
  pub all_append : (P : A → Type 0) (xs ys : List A) → All P xs → All P ys → All P (xs ++ ys)
  all_append P [] ys h k = k
  all_append P (x ∷ xs) ys h k = (h.0, all_append P xs ys h.1 k)

  pub every_two_append : (R : A → A → Type 0) (xs ys : List A) → EveryTwo R xs → EveryTwo R ys → All (λ x. All (R x) ys) xs → EveryTwo R (xs ++ ys)
  every_two_append R [] ys h k m = k
  every_two_append R (x ∷ xs) ys h k m = (all_append (R x) xs ys h.0 m.0, every_two_append R xs ys h.1 k m.1)

  -- What holds of any two elements that have P holds of all pairs of a list where all have P.
  pub pairs_passed : (P : A → Type 0) (R : A → A → Type 0) (xs : List A) → All P xs → EveryTwo (λ x y. P x → P y → R x y) xs → EveryTwo R xs
  pairs_passed P R [] h k = tt
  pairs_passed P R (x ∷ xs) h k = (all_both (λ y p f. f h.0 p) xs h.1 k.0, pairs_passed P R xs h.1 k.1)

  -- What holds of all, or of each element and every later one, also holds from an index on.
  pub all_drop : (P : A → Type 0) (k : ℕ) (xs : List A) → All P xs → All P (drop k xs)
  all_drop P zero xs h = h
  all_drop P (suc k) [] h = tt
  all_drop P (suc k) (x ∷ xs) h = all_drop P k xs h.1

  pub every_two_drop : (R : A → A → Type 0) (k : ℕ) (xs : List A) → EveryTwo R xs → EveryTwo R (drop k xs)
  every_two_drop R zero xs h = h
  every_two_drop R (suc k) [] h = tt
  every_two_drop R (suc k) (x ∷ xs) h = every_two_drop R k xs h.1

  -- Where `any` says yes, some element of the list passes.
  pub any_some : {P : Type 0} (test : A → Bool) (xs : List A) → any test xs ≡ true → ((x : A) → In x xs → test x ≡ true → P) → P
  unfolding any
  any_some test [] h f = absurd (never h refl)
  any_some test (x ∷ xs) h f =
      elim (or_read (test x) h) [ inl t ↦ f x (Memᴰ.head refl) t | inr k ↦ any_some test xs k (λ y m. f y (Memᴰ.tail m)) ]

  -- What is kept of a reversed list is what is kept of the list, reversed.
  pub keep_turned : (test : A → Bool) (xs : List A) → keep test (reverse xs) ≡ reverse (keep test xs)
  unfolding keep
  keep_turned test [] = refl
  keep_turned test (x ∷ xs) =
      ap (keep test) (reverse-cons x xs) ∙ keep_append test (reverse xs) (x ∷ []) ∙ elim (either (test x)) [
        | inl h ↦ rw (h, keep_turned test xs) (sym (reverse-cons x (keep test xs)))
        | inr h ↦ rw (h, keep_turned test xs) (append-nil _)
      ]

  -- If every element that passes `inner` passes `outer`, keeping by `outer` first changes nothing.
  pub keep_kept : (outer inner : A → Bool) → ((x : A) → inner x ≡ true → outer x ≡ true) → (xs : List A) → keep inner xs ≡ keep inner (keep outer xs)
  unfolding keep
  keep_kept outer inner h [] = refl
  keep_kept outer inner h (x ∷ xs) =
      elim (either (inner x)) [
        | inl i ↦ rw (i, h x i, i) (ap (λ ys. x ∷ ys) (keep_kept outer inner h xs))
        | inr i ↦ elim (either (outer x)) [
          | inl o ↦ rw (i, o, i) (keep_kept outer inner h xs)
          | inr o ↦ rw (i, o) (keep_kept outer inner h xs)
        ]
      ]

  -- Of two tests it doesn't matter which one keeps first.
  pub keep_swapped : (f g : A → Bool) (xs : List A) → keep f (keep g xs) ≡ keep g (keep f xs)
  unfolding keep
  keep_swapped f g [] = refl
  keep_swapped f g (x ∷ xs) =
      let r = keep_swapped f g xs in
      elim (either (f x)) [
        | inl a ↦ elim (either (g x)) [ inl b ↦ rw (b, a, b) (ap (λ ys. x ∷ ys) r) | inr b ↦ rw (b, a, b) r ]
        | inr a ↦ elim (either (g x)) [ inl b ↦ rw (b, a) r | inr b ↦ rw (b, a) r ]
      ]

  -- The first n elements, from an index on, begin with the element at that index.
  pub taken_from : (xs : List A) (n i : ℕ) (d : A) → i < n → i < length xs → drop i (take n xs) ≡ get_or xs i d ∷ drop (suc i) (take n xs)
  taken_from [] n i d h l = absurd (not-suc-le-zero l)
  taken_from (x ∷ xs) zero i d h l = absurd (not-suc-le-zero h)
  taken_from (x ∷ xs) (suc n) zero d h l = refl
  taken_from (x ∷ xs) (suc n) (suc i) d h l = taken_from xs n i d (omega arith) (omega arith)

  -- Below the end of a list the default doesn't matter.
  pub within_end : (l : List A) (n : ℕ) (d e : A) → n < length l → get_or l n d ≡ get_or l n e
  within_end [] n d e h = absurd (not-suc-le-zero h)
  within_end (x ∷ l) zero d e h = refl
  within_end (x ∷ l) (suc n) d e h = within_end l n d e (omega arith)

module _ {A B : Type 0} (f : A → B) where
  pub map_drop : (k : ℕ) (xs : List A) → map f (drop k xs) ≡ drop k (map f xs)
  map_drop zero xs = refl
  map_drop (suc k) [] = refl
  map_drop (suc k) (x ∷ xs) = map_drop k xs

  pub map_take : (k : ℕ) (xs : List A) → map f (take k xs) ≡ take k (map f xs)
  map_take zero xs = refl
  map_take (suc k) [] = refl
  map_take (suc k) (x ∷ xs) = ap (λ ys. f x ∷ ys) (map_take k xs)

  -- A function that agrees with `f` on all elements maps the list alike.
  pub map_alike : (g : A → B) (xs : List A) → All (λ x. f x ≡ g x) xs → map f xs ≡ map g xs
  map_alike g [] h = refl
  map_alike g (x ∷ xs) h = rw (h.0, map_alike g xs h.1)

  -- What a test keeps of the mapped list is what it keeps of the list, mapped.
  pub keep_mapped : (test : B → Bool) (xs : List A) → keep test (map f xs) ≡ map f (keep (λ x. test (f x)) xs)
  unfolding keep
  keep_mapped test [] = refl
  keep_mapped test (x ∷ xs) =
      let r = keep_mapped test xs in
      elim (either (test (f x))) [ inl h ↦ rw h (ap (λ ys. f x ∷ ys) r) | inr h ↦ rw h r ]

  -- What holds of `f x` for each element x holds of all elements of the mapped list. It is the same
  -- with every two.
  pub all_mapped : (P : B → Type 0) (xs : List A) → All (λ x. P (f x)) xs → All P (map f xs)
  all_mapped P [] h = tt
  all_mapped P (x ∷ xs) h = (h.0, all_mapped P xs h.1)

  pub every_two_mapped : (R : B → B → Type 0) (xs : List A) → EveryTwo (λ x y. R (f x) (f y)) xs → EveryTwo R (map f xs)
  every_two_mapped R [] h = tt
  every_two_mapped R (x ∷ xs) h = (all_mapped (R (f x)) xs h.0, every_two_mapped R xs h.1)

  -- The element at an index of the mapped list is `f` of the element there.
  pub map_there : (xs : List A) (i : ℕ) → i < length xs → (d : A) (e : B) → get_or (map f xs) i e ≡ f (get_or xs i d)
  map_there [] i h d e = absurd (not-suc-le-zero h)
  map_there (x ∷ xs) zero h d e = refl
  map_there (x ∷ xs) (suc i) h d e = map_there xs i (omega arith) d e
