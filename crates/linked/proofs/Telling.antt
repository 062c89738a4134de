-- Why it holds: One node more tells its own parent and the first child of the node before. It also
-- tells the next siblings of the nodes that contained that one and don't contain the new one.
-- What would break it: A node that is left without its next sibling compared would be caught here.
use mathlib.Core.Path.{◌≡◌, refl, sym, ap, subst, ◌∙◌}
use mathlib.Core.Logic.{inl, inr}
use mathlib.Core.Bool.{true, false}
use mathlib.Core.List.{List}
use Prim.Native.Nat.{ℕ, suc, ◌≤◌, ◌<◌}
use native.Mathlib.Nat.{eq-or-lt_of_le, not-suc-le-zero}
use native.Mathlib.Omega.{arith}
use lib.ListN.{length}
use Rattle.nodes.specs.declared.node.Node.{Node}
use Rattle.nodes.proofs.NodeLaws.{inside_trans}
use Rattle.laws.proofs.Tests.{never, not_so}
use Rattle.forest.proofs.FirstAndLast.{last_or_below}
use Rattle.forest.proofs.Parents.{holds}
use Rattle.linked.specs.Private.Told.{NextTold, ParentTold, ChildTold, Told, AllTold, Shows}

module _ (ns : List Node) (links : List ℕ) where
  -- A test that says yes or no.
  pub shows_yes : {S : Type 0} → S → Shows ns links S true
  shows_yes s = record { yes = λ z. s; no = λ z. absurd (never refl z) }

  pub shows_no : {S : Type 0} → (AllTold ns links (length ns) → ⊥) → Shows ns links S false
  shows_no h = record { yes = λ z. absurd (never z refl); no = λ z. h }

  -- Before any node only the first one's parent is told.
  pub told_first : ParentTold ns links 0 → Told ns links 0
  told_first parent = record {
    parents = λ j a. let z : j ≡ 0 = omega arith in subst (ParentTold ns links) (sym z) parent;
    children = λ j a. absurd (not-suc-le-zero a);
    nexts = λ j a. absurd (not-suc-le-zero a);
  }

  module _ (b i : ℕ) (s : suc b ≡ i) where
    -- One node more tells its parent, the first child of the node before, and what it leaves.
    pub told_more : ((j : ℕ) → j ≤ b → ParentTold ns links j) → ((j : ℕ) → j < b → ChildTold ns links j) → ParentTold ns links i
        → ChildTold ns links b → ((j : ℕ) → j < i → holds ns i j ≡ false → NextTold ns links j) → Told ns links i
    told_more parents children parent child nexts = record {
      parents = λ j a. elim (eq-or-lt_of_le a) [ inl q ↦ subst (ParentTold ns links) (sym q) parent | inr q ↦ parents j (omega arith) ];
      children = λ j a. let m : j < suc b = omega arith in
          elim (last_or_below m) [ inl q ↦ subst (ChildTold ns links) (sym q) child | inr q ↦ children j q ];
      nexts = nexts;
    }

    -- In another document the node leaves all that were before.
    pub told_apart : AllTold ns links i → ParentTold ns links i → Told ns links i
    told_apart t parent =
        told_more (λ j a. t.parents j (omega arith)) (λ j a. t.children j (omega arith)) parent (t.children b (omega arith))
        (λ j a h. t.nexts j a)

    -- A node inside the node before leaves none that contains that one.
    pub told_child : Told ns links b → ParentTold ns links i → ChildTold ns links b → holds ns i b ≡ true → Told ns links i
    told_child t parent child inner =
        told_more t.parents t.children parent child (λ j a h.
        let m : j < suc b = omega arith in
        elim (last_or_below m) [
          | inl q ↦ absurd (never inner (ap (holds ns i) (sym q) ∙ h))
          | inr q ↦ t.nexts j q (not_so (λ g. never (inside_trans _ _ _ inner g) h))
        ])
