-- Why it holds: A node's children lie inside it, and its next sibling lies outside it but inside
-- its parent. So where a node, its parent or its document ends, what it can still get is settled.
-- What would break it: A child or a next sibling expected past the end of what it must lie in would
-- be caught here. So would one that is missed.
use mathlib.Core.Path.{◌≡◌, refl, sym, ap, ◌∙◌}
use mathlib.Core.Logic.{inl, inr}
use mathlib.Core.Bool.{true, false, ◌&&◌}
use mathlib.Core.List.{List}
use Prim.Native.Nat.{ℕ, suc, ◌-◌, ◌≤◌, ◌<◌}
use native.Mathlib.Nat.{eq-or-lt_of_le}
use native.Mathlib.Omega.{arith}
use lib.Dec.{ltb, eqb}
use lib.ListN.{length}
use borrow.Author.Tests.{ltb-true, ltb-false, lt-ltb, eq-eqb, ne_eqb}
use Rattle.nodes.specs.declared.node.Node.{Node}
use Rattle.nodes.proofs.NodeLaws.{within}
use Rattle.laws.proofs.Tests.{either, never, not_so, and_read, and_make}
use Rattle.forest.specs.Private.Climb.{Ended, Elder, firstb}
use Rattle.forest.specs.Links.{NONE, node_in, indices, parent_of, child_of, next_of, siblingb}
use Rattle.forest.proofs.FirstAndLast.{first_is, first_none}
use Rattle.forest.proofs.Climbing.{Passed, first_parentless}
use Rattle.linked.specs.Private.Told.{LastOfDocument}
use Rattle.forest.proofs.Containing.{AcceptedList, documents, contains_between, outside_ended}
use Rattle.forest.proofs.Parents.{holds, parent_last, parent_before, sibling_read, sibling_make}
use Rattle.forest.proofs.OneMoreNode.{none_between}

module _ (ns : List Node) (ok : AcceptedList ns) where
  few : length ns ≤ NONE
  few = omega (arith, ok.short)

  -- A node without a node after it inside it has no child.
  child_none : (i : ℕ) → i < length ns → ((j : ℕ) → i < j → j < length ns → holds ns j i ≡ false) → child_of ns i ≡ NONE
  unfolding child_of indices
  child_none i l none =
      first_none (λ j. eqb (parent_of ns j) i) (length ns) few (λ j k. ne_eqb (parent_of ns j) i (λ q.
      let f = (parent_last ns ok j k).found (λ z. omega (arith, few)) in
      never (ap (holds ns j) (sym q) ∙ f.1) (none j (omega (arith, f.0)) k)))

  -- If a node is the parent of the one after it, that one is its first child.
  pub child_next : (b i : ℕ) → suc b ≡ i → i < length ns → parent_of ns i ≡ b → child_of ns b ≡ i
  unfolding child_of indices
  child_next b i s l q =
      first_is (λ j. eqb (parent_of ns j) b) few (record {
        found = λ z. (l, eq-eqb (parent_of ns i) b q);
        first = λ j k z. ne_eqb (parent_of ns j) b (λ p.
            omega (arith, z (λ y. omega (arith, few)), parent_before ns ok j k (λ y. omega (arith, few))));
      })

  -- A node inside another is no sibling of it.
  inner_apart : (e j : ℕ) → e < j → j < length ns → holds ns j e ≡ true → siblingb ns e j ≡ true → ⊥
  inner_apart e j m k h s =
      let q = (sibling_read ns e j s).1 in
      never h ((parent_last ns ok j k).last e m (λ z. omega (arith, q, parent_before ns ok e (omega arith) (λ y. z (q ∙ y)))))

  -- A node that contains all nodes after it up to b, and has no sibling after b, has no next one.
  pub next_none : (e b : ℕ) → ((j : ℕ) → e < j → j ≤ b → holds ns j e ≡ true)
      → ((j : ℕ) → b < j → j < length ns → siblingb ns e j ≡ true → ⊥) → next_of ns e ≡ NONE
  unfolding next_of indices
  next_none e b inside none =
      first_none (λ j. ltb e j && siblingb ns e j) (length ns) few (λ j k. not_so (λ t.
      let p = and_read (ltb e j) t in
      let m = ltb-true e j p.0 in
      elim (either (ltb b j)) [
        | inl a ↦ none j (ltb-true b j a) k p.1
        | inr a ↦ inner_apart e j m k (inside j m (ltb-false b j a)) p.1
      ]))

  -- A node is the next sibling of its elder.
  pub next_elder : (i e : ℕ) → i < length ns → Elder ns i e → next_of ns e ≡ i
  unfolding next_of indices
  next_elder i e l k =
      let s = sibling_read ns i e k.sibling in
      first_is (λ j. ltb e j && siblingb ns e j) few (record {
        found = λ z. (l, and_make (lt-ltb e i k.before) (sibling_make ns e i (sym s.0) (sym s.1)));
        first = λ j m z. not_so (none_between ns ok i l e k j (z (λ q. omega (arith, few))));
      })

  -- The first node of a document has no parent: one after a node of another, and the list's first.
  pub apart_parentless : (b i : ℕ) → suc b ≡ i → i < length ns → ((node_in ns b).document ≡ (node_in ns i).document → ⊥) → parent_of ns i ≡ NONE
  unfolding firstb
  apart_parentless b i q l d =
      let at : (node_in ns (i - 1)).document ≡ (node_in ns b).document = ap (λ k. (node_in ns k).document) (omega arith) in
      first_parentless ns ok i l (rw (ne_eqb i 0 (λ z. omega arith), ne_eqb _ _ (λ z. d (sym at ∙ z))) refl)

  pub start_parentless : 0 < length ns → parent_of ns 0 ≡ NONE
  unfolding firstb
  start_parentless l = first_parentless ns ok 0 l refl

  -- A node before one of another document is the last of its own.
  pub last_before : (b i : ℕ) → suc b ≡ i → i < length ns → ((node_in ns b).document ≡ (node_in ns i).document → ⊥) → LastOfDocument ns b
  last_before b i q l d j a k e =
      d (omega (arith, documents ns ok b i (omega arith) l, documents ns ok i j (omega arith) k))

  -- The last node of a document has no child, and neither has one that ended before the next node.
  pub last_childless : (b : ℕ) → b < length ns → LastOfDocument ns b → child_of ns b ≡ NONE
  last_childless b l last = child_none b l (λ j a k. not_so (λ h. last j a k (within _ _ h).document))

  pub ended_childless : (i : ℕ) → i < length ns → Ended ns i → child_of ns (i - 1) ≡ NONE
  ended_childless i l e =
      child_none (i - 1) (omega arith) (λ j a k. not_so (λ h.
      never (elim (eq-or-lt_of_le a) [
        | inl q ↦ let next : i ≡ j = omega (arith, e.later) in ap (λ x. holds ns x (i - 1)) next ∙ h
        | inr q ↦ contains_between ns ok j i (i - 1) (omega (arith, e.later)) (omega arith) k h
      ]) (outside_ended ns ok (i - 1) i l e.ended)))

  -- A node that was passed, whose parent ended too, has no next sibling: that would lie in the
  -- parent.
  pub passed_nextless : (i e : ℕ) → i < length ns → Passed ns i e → (parent_of ns e ≡ NONE → ⊥)
      → (node_in ns (parent_of ns e)).end < (node_in ns i).start → next_of ns e ≡ NONE
  passed_nextless i e l c n h =
      next_none e (i - 1) (λ j a k. c.between j a (omega (arith, c.before))) (λ j a k s.
      let q = (sibling_read ns e j s).1 in
      let f = (parent_last ns ok j k).found (λ z. n (sym q ∙ z)) in
      let inner : holds ns j (parent_of ns e) ≡ true = ap (holds ns j) (sym q) ∙ f.1 in
      let since : i ≤ j = omega (arith, c.before) in
      let up = parent_before ns ok e (omega (arith, c.before)) n in
      never (elim (eq-or-lt_of_le since) [
        | inl z ↦ ap (λ x. holds ns x (parent_of ns e)) z ∙ inner
        | inr z ↦ contains_between ns ok j i (parent_of ns e) (omega (arith, c.before)) z k inner
      ]) (outside_ended ns ok (parent_of ns e) i l h))
