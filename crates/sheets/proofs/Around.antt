-- Why it holds: Two zones that contain a sample lie one inside the other. So of the zones with one
-- parent, or with none, at most one contains it. The way up from a zone that contains it leads
-- through zones that do, until the parent is the one asked about.
-- What would break it: A sample in two child zones, or one in an inner zone and in no child zone,
-- would be caught here.
use mathlib.Core.Path.{◌≡◌, sym, ◌∙◌}
use mathlib.Core.Logic.{inl, inr}
use mathlib.Core.Bool.{true, false}
use mathlib.Core.List.{List}
use Prim.Native.Nat.{ℕ, zero, suc, ◌≤◌, ◌<◌}
use native.Mathlib.Nat.{not-suc-le-zero}
use native.Mathlib.Omega.{arith}
use lib.Dec.{eqb}
use lib.ListN.{length}
use borrow.Author.Tests.{eqb-true, eqb-false}
use Rattle.laws.proofs.Tests.{either, never, not_so}
use Rattle.nodes.specs.declared.node.Node.{Node}
use Rattle.nodes.specs.Node.{insideb}
use Rattle.nodes.proofs.NodeLaws.{within, inside_trans}
use Rattle.forest.specs.Links.{NONE, node_in, parent_of}
use Rattle.forest.proofs.Containing.{AcceptedList, inside_unended, contains_before, contains_between}
use Rattle.forest.proofs.FirstAndLast.{none_or_not}
use Rattle.forest.proofs.Parents.{holds, parent_last, parent_before}

-- A child of i among the zones, that contains the node. NONE asks for an outermost one.
pub record ChildAround (ns : List Node) (n : Node) (i : ℕ) : Type 0 where
  pub child : ℕ
  pub there : child < length ns
  pub parent : parent_of ns child ≡ i
  pub around : insideb n (node_in ns child) ≡ true

module _ (ns : List Node) (ok : AcceptedList ns) (n : Node) (span : n.start ≤ n.end) where
  -- Of two zones that contain the node, the later is inside the earlier.
  inner_later : (a b : ℕ) → a < b → b < length ns → insideb n (node_in ns a) ≡ true → insideb n (node_in ns b) ≡ true → holds ns b a ≡ true
  inner_later a b l m h k =
      let v = within n (node_in ns a) h in
      let w = within n (node_in ns b) k in
      inside_unended ns ok a b l m (sym v.document ∙ w.document) (omega (arith, v.end, w.start))

  -- So no two with the same parent contain it.
  pub one_child : (a b : ℕ) → a < b → b < length ns → parent_of ns a ≡ parent_of ns b
      → insideb n (node_in ns a) ≡ true → insideb n (node_in ns b) ≡ false
  one_child a b l m p h =
      not_so (λ k. never (inner_later a b l m h k)
      ((parent_last ns ok b m).last a l (λ z. let q = parent_before ns ok a (omega arith) (λ e. z (sym p ∙ e)) in omega (arith, p, q))))

  -- A zone inside i has i as its parent, or its parent is inside i as well.
  parent_inside : (j i : ℕ) → j < length ns → i < length ns → holds ns j i ≡ true → (parent_of ns j ≡ i → ⊥)
      → (parent_of ns j ≡ NONE → ⊥) × (holds ns (parent_of ns j) i ≡ true)
  parent_inside j i l m h d =
      let up = parent_last ns ok j l in
      let before = contains_before ns ok j i m h in
      let z : parent_of ns j ≡ NONE → ⊥ = λ e. never h (up.last i before (λ k. absurd (k e))) in
      let p = up.found z in
      let a : parent_of ns j < i → ⊥ = λ k. never h (up.last i before (λ y. k)) in
      (z, contains_between ns ok j (parent_of ns j) i (omega (arith, a, d)) p.0 l h)

  -- The way up from a zone that contains the node, inside i or with NONE for i, ends at a child of
  -- i.
  climb : (bound j i : ℕ) → j < bound → j < length ns → insideb n (node_in ns j) ≡ true
      → ((i ≡ NONE → ⊥) → (i < length ns) × (holds ns j i ≡ true)) → ChildAround ns n i
  climb zero j i b l h k = absurd (not-suc-le-zero b)
  climb (suc bound) j i b l h k =
      let p = parent_of ns j in
      elim (either (eqb p i)) [
        | inl e ↦ record { child = j; there = l; parent = eqb-true p i e; around = h }
        | inr e ↦ let d = eqb-false p i e in
            let z : p ≡ NONE → ⊥ = λ y. elim (none_or_not i) [
              | inl q ↦ d (y ∙ sym q)
              | inr q ↦ (parent_inside j i l (k q).0 (k q).1 d).0 y
            ] in
            let up = (parent_last ns ok j l).found z in
            climb bound p i (omega (arith, up.0)) (omega (arith, up.0)) (inside_trans n (node_in ns j) (node_in ns p) h up.1)
            (λ q. ((k q).0, (parent_inside j i l (k q).0 (k q).1 d).1))
      ]

  pub child_around : (j i : ℕ) → j < length ns → insideb n (node_in ns j) ≡ true
      → ((i ≡ NONE → ⊥) → (i < length ns) × (holds ns j i ≡ true)) → ChildAround ns n i
  child_around j i = climb (suc j) j i (omega arith)
