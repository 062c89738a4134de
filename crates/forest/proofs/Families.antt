-- Why it holds: In any accepted list the parent is the innermost node that contains a node. First
-- child and next lead through exactly its children. These are theorems for the reader.
-- What would break it: A definition of the links that missed a container, a child or a sibling
-- would be caught here.
use mathlib.Core.Path.{◌≡◌, refl, sym, ap, ◌∙◌}
use mathlib.Core.Logic.{◌⊎◌, inl, inr}
use mathlib.Core.Bool.{Bool, true, false, ◌&&◌}
use mathlib.Core.List.{List}
use Prim.Native.Nat.{ℕ, suc, ◌≤◌, ◌<◌}
use native.Mathlib.Nat.{eq-or-lt_of_le}
use native.Mathlib.Omega.{arith}
use lib.Dec.{ltb, leb, eqb, leb-zero}
use lib.ListN.{length}
use borrow.Author.Tests.{ltb-true, ltb-false, eqb-true, eq-eqb, eqb-false}
use Rattle.nodes.specs.declared.node.Node.{Node}
use Rattle.answers.specs.Answer.{TAKEN}
use Rattle.laws.specs.Choose.{keep}
use Rattle.nodes.specs.Node.{insideb}
use Rattle.nodes.specs.Words.{nodes}
use Rattle.laws.proofs.Choices.{all_of, keep_alike}
use Rattle.laws.proofs.Tests.{either, never, not_so, same_test}
use Rattle.lists.specs.Check.{check_words}
use Rattle.forest.specs.Follow.{followed}
use Rattle.forest.specs.Links.{NONE, node_in, indices, parent_of, child_of, next_of, siblingb}
use Rattle.forest.proofs.FirstAndLast.{first_of_lem, none_found}
use Rattle.forest.proofs.Containing.{AcceptedList, accepted_list, contains_before, contains_between}
use Rattle.forest.proofs.Following.{first_alike, follow_from}
use Rattle.forest.proofs.Parents.{parent_last, parent_before, one_document, sibling_read, sibling_make}

from_zero : (m : ℕ) (b : Bool) → b ≡ (leb 0 m && b)
from_zero m b = rw (leb-zero m) refl

module _ (list : List ℕ) (taken : (check_words list).answer ≡ TAKEN) where
  abbrev ns : List Node
  ns = nodes list

  abbrev ok : AcceptedList ns
  ok = accepted_list list taken

  short : length ns ≤ NONE
  short = omega (arith, ok.short)

  module _ (i : ℕ) (l : i < length ns) where
    -- A node's parent contains it.
    pub parent_contains : (parent_of ns i ≡ NONE → ⊥) → insideb (node_in ns i) (node_in ns (parent_of ns i)) ≡ true
    parent_contains h = ((parent_last ns ok i l).found h).1

    -- Each node that contains it is its parent or contains its parent.
    pub parent_innermost : (parent_of ns i ≡ NONE → ⊥) → (j : ℕ) → j < length ns → insideb (node_in ns i) (node_in ns j) ≡ true
        → (j ≡ parent_of ns i) ⊎ (insideb (node_in ns (parent_of ns i)) (node_in ns j) ≡ true)
    parent_innermost h j m c =
        let p = parent_of ns i in
        let up = parent_last ns ok i l in
        elim (either (ltb p j)) [
          | inl a ↦ absurd (never c (up.last j (contains_before ns ok i j m c) (λ z. ltb-true p j a)))
          | inr a ↦ elim (eq-or-lt_of_le (ltb-false p j a)) [
            | inl q ↦ inl q
            | inr q ↦ inr (contains_between ns ok i p j q (up.found h).0 l c)
          ]
        ]

    -- A node without a parent is contained in no node.
    pub parentless : parent_of ns i ≡ NONE → (j : ℕ) → j < length ns → insideb (node_in ns i) (node_in ns j) ≡ false
    parentless h j m = not_so (λ c. never c ((parent_last ns ok i l).last j (contains_before ns ok i j m c) (λ z. absurd (z h))))

    -- Parents come before their children.
    pub parent_earlier : (parent_of ns i ≡ NONE → ⊥) → parent_of ns i < i
    parent_earlier h = parent_before ns ok i l h

    -- From the first child on, following next leads to all children in their order, and to no other
    -- node.
    pub children_followed : followed ns (length ns) (child_of ns i) ≡ keep (λ j. eqb (parent_of ns j) i) (indices ns)
    unfolding child_of
    children_followed =
        let test : ℕ → Bool = λ j. eqb (parent_of ns j) i in
        let same = all_of (λ m. from_zero m (test m)) (indices ns) in
        ap (followed ns (length ns)) (first_alike test (λ m. leb 0 m && test m) (indices ns) same)
        ∙ follow_from ns short test siblings (length ns) 0 (omega arith)
        ∙ sym (keep_alike test (λ m. leb 0 m && test m) (indices ns) same)
      where
        siblings : (j m : ℕ) → j < length ns → m < length ns → eqb (parent_of ns j) i ≡ true → siblingb ns j m ≡ eqb (parent_of ns m) i
        siblings j m a b h =
            let p : parent_of ns j ≡ i = eqb-true (parent_of ns j) i h in
            same_test (λ s. eq-eqb (parent_of ns m) i ((sibling_read ns j m s).1 ∙ p))
            (λ t. let q = eqb-true (parent_of ns m) i t ∙ sym p in
            sibling_make ns j m (one_document ns ok j m a b (λ z. omega (arith, short)) q) q)

  -- The first child is the first node whose parent the node is.
  pub child_first : (i : ℕ) → (child_of ns i ≡ NONE → ⊥)
      → (child_of ns i < length ns) × (parent_of ns (child_of ns i) ≡ i) × ((j : ℕ) → j < child_of ns i → parent_of ns j ≡ i → ⊥)
  unfolding child_of indices
  child_first i h =
      let f = first_of_lem (λ j. eqb (parent_of ns j) i) (length ns) short in
      let c = f.found h in
      (c.0, eqb-true _ _ c.1, λ j k. eqb-false (parent_of ns j) i (f.first j (omega (arith, c.0)) (λ z. k)))

  -- A node without a first child is nobody's parent.
  pub childless : (i : ℕ) → child_of ns i ≡ NONE → (j : ℕ) → j < length ns → parent_of ns j ≡ i → ⊥
  unfolding child_of indices
  childless i h j k = eqb-false (parent_of ns j) i (none_found (λ m. eqb (parent_of ns m) i) (length ns) short h j k)

  -- From the next node on, following next leads to all later nodes with the same parent in the same
  -- document, in their order, and to no other.
  pub siblings_followed : (i : ℕ) → followed ns (length ns) (next_of ns i) ≡ keep (λ j. ltb i j && siblingb ns i j) (indices ns)
  unfolding next_of
  siblings_followed i = follow_from ns short (siblingb ns i) alike (length ns) (suc i) (omega arith)
    where
      alike : (j m : ℕ) → j < length ns → m < length ns → siblingb ns i j ≡ true → siblingb ns j m ≡ siblingb ns i m
      alike j m a b h =
          let p = sibling_read ns i j h in
          same_test (λ s. let q = sibling_read ns j m s in sibling_make ns i m (q.0 ∙ p.0) (q.1 ∙ p.1))
          (λ s. let q = sibling_read ns i m s in sibling_make ns j m (q.0 ∙ sym p.0) (q.1 ∙ sym p.1))
