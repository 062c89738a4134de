-- Why it holds: A list of ascending numbers that pass a test begins with the first that does and
-- goes on with those after it. So following `next` meets them all.
-- What would break it: A `next` that left out a sibling, or met one twice, would be caught here.
use mathlib.Core.Path.{◌≡◌, refl, sym, ap, ◌∙◌}
use mathlib.Core.Logic.{inl, inr}
use mathlib.Core.Bool.{Bool, true, ◌&&◌}
use mathlib.Core.List.{List, [], ◌∷◌, ◌++◌}
use Prim.Native.Nat.{ℕ, zero, suc, ◌+◌, ◌≤◌, ◌<◌}
use native.Mathlib.Nat.{not-suc-le-zero}
use native.Mathlib.Omega.{arith}
use lib.Dec.{ltb, leb}
use lib.ListN.{length}
use borrow.Author.Tests.{leb-true, ltb-true, lt-ltb, le-ltb, le-leb, lt-leb, eq-eqb, ne_eqb}
use Rattle.nodes.specs.declared.node.Node.{Node}
use Rattle.laws.specs.Choose.{All, keep}
use Rattle.laws.proofs.Choices.{keep_append, keep_alike, keep_none}
use Rattle.laws.proofs.Tests.{either, and_read}
use Rattle.forest.specs.Follow.{followed}
use Rattle.forest.specs.Links.{NONE, up_to, first_of, indices, next_of, siblingb}
use Rattle.forest.proofs.FirstAndLast.{First, none_or_not, last_or_below, all_up, first_of_lem, none_found}

-- Tests that agree on the numbers find the same.
pub first_alike : (f g : ℕ → Bool) (xs : List ℕ) → All (λ x. f x ≡ g x) xs → first_of f xs ≡ first_of g xs
unfolding first_of
first_alike f g [] h = refl
first_alike f g (x ∷ xs) h = rw (h.0, first_alike f g xs h.1)

-- What is kept is the first that passes, and what is kept after it.
keep_first : (test : ℕ → Bool) (n r : ℕ) → First test n r → (r ≡ NONE → ⊥)
    → keep test (up_to n) ≡ r ∷ keep (λ m. ltb r m && test m) (up_to n)
unfolding up_to keep
keep_first test zero r f h = absurd (not-suc-le-zero (f.found h).0)
keep_first test (suc n) r f h =
    rw (keep_append test (up_to n) (n ∷ []), keep_append (λ m. ltb r m && test m) (up_to n) (n ∷ []))
    (elim (last_or_below (f.found h).0) [
      | inl e ↦ let none = keep_none test (up_to n) (all_up _ n (λ j l. f.first j (omega arith) (λ z. omega arith))) in
          let one : keep test (n ∷ []) ≡ n ∷ [] = rw (ap test (sym e) ∙ (f.found h).1) in
          let beyond = keep_none (λ m. ltb r m && test m) (up_to n) (all_up _ n (λ j l. rw (le-ltb r j (omega arith)))) in
          let last : keep (λ m. ltb r m && test m) (n ∷ []) ≡ [] = rw (le-ltb r n (omega arith)) in
          (λ t. none t ++ one t) ∙ λ t. sym e t ∷ (sym beyond t ++ sym last t)
      | inr l ↦ let front = keep_first test n r (record { found = λ k. (l, (f.found k).1); first = λ j k z. f.first j (omega arith) z }) h in
          let last : keep test (n ∷ []) ≡ keep (λ m. ltb r m && test m) (n ∷ []) = rw (lt-ltb r n l) in
          λ t. front t ++ last t
    ])

-- Of the numbers after `j`, all are at least `a`, where `a` is at most `j`.
beyond : (a j m : ℕ) → a ≤ j → (b : Bool) → (ltb j m && b) ≡ (ltb j m && (leb a m && b))
beyond a j m l b =
    elim (either (ltb j m)) [ inl h ↦ rw (h, le-leb a m (omega (arith, ltb-true j m h))) refl | inr h ↦ rw h refl ]

module _ (ns : List Node) (short : length ns ≤ NONE) where
  follow_none : (steps i : ℕ) → i ≡ NONE → followed ns steps i ≡ []
  unfolding followed
  follow_none zero i e = refl
  follow_none (suc steps) i e = rw (eq-eqb i NONE e)

  follow_step : (steps i : ℕ) → (i ≡ NONE → ⊥) → followed ns (suc steps) i ≡ i ∷ followed ns steps (next_of ns i)
  unfolding followed
  follow_step steps i h = rw (ne_eqb i NONE h)

  -- If the nodes that pass a test are siblings of one another and of no other node, following them
  -- from the first on meets them all.
  pub follow_from : (test : ℕ → Bool)
      → ((j m : ℕ) → j < length ns → m < length ns → test j ≡ true → siblingb ns j m ≡ test m)
      → (steps a : ℕ) → length ns ≤ a + steps
      → followed ns steps (first_of (λ m. leb a m && test m) (indices ns)) ≡ keep (λ m. leb a m && test m) (indices ns)
  unfolding indices next_of followed
  follow_from test alike zero a l = sym (keep_none _ (up_to (length ns)) (all_up _ (length ns) (λ m k. rw (lt-leb a m (omega arith)))))
  follow_from test alike (suc steps) a l =
      let all = up_to (length ns) in
      let some : ℕ → Bool = λ m. leb a m && test m in
      let j = first_of some all in
      let f = first_of_lem some (length ns) short in
      elim (none_or_not j) [
        | inl e ↦ follow_none (suc steps) j e ∙ sym (keep_none some all (all_up _ (length ns) (none_found some (length ns) short e)))
        | inr n ↦ let p = and_read (leb a j) (f.found n).1 in
            let b : a ≤ j = leb-true a j p.0 in
            let next : next_of ns j ≡ first_of (λ m. ltb j m && test m) all =
            first_alike _ _ all (all_up _ (length ns) (λ m k. ap (λ t. ltb j m && t) (alike j m (f.found n).0 k p.1))) in
            let same : keep (λ m. ltb j m && test m) all ≡ keep (λ m. ltb j m && some m) all =
            keep_alike _ _ all (all_up _ (length ns) (λ m k. beyond a j m b (test m))) in
            follow_step steps j n
            ∙ ap (λ xs. j ∷ xs) (ap (followed ns steps) next ∙ follow_from test alike steps (suc j) (omega arith) ∙ same)
            ∙ sym (keep_first some (length ns) j f n)
      ]
