-- Why it holds: Of two nodes that contain a third the later is inside the earlier, so the innermost
-- is the last one that contains it.
-- What would break it: A parent that is not the innermost, or one given to a node that nothing
-- contains, would be caught here.
use mathlib.Core.Path.{◌≡◌, sym, ap, subst, ◌∙◌}
use mathlib.Core.Logic.{inl, inr}
use mathlib.Core.Bool.{Bool, true, not}
use mathlib.Core.List.{List}
use Prim.Native.Nat.{ℕ, ◌<◌}
use native.Mathlib.Omega.{arith}
use lib.Dec.{eqb}
use lib.ListN.{length}
use borrow.Author.Tests.{eqb-true, eq-eqb}
use Rattle.nodes.specs.declared.node.Node.{Node}
use Rattle.nodes.specs.Node.{insideb}
use Rattle.nodes.specs.Words.{node}
use Rattle.laws.proofs.Choices.{any_none, none_any, all_at, at_all}
use Rattle.nodes.proofs.NodeLaws.{within}
use Rattle.laws.proofs.Tests.{never, not_so, and_read, and_make, not_read}
use Rattle.forest.specs.Links.{NONE, node_in, indices, innermostb, parent_of, siblingb}
use Rattle.forest.proofs.FirstAndLast.{Last, none_or_not, first_is, last_of_lem}
use Rattle.forest.proofs.Containing.{AcceptedList, contains_before, contains_between}

-- Node j contains node i.
abbrev pub holds : List Node → ℕ → ℕ → Bool
holds ns i j = insideb (node_in ns i) (node_in ns j)

module _ (ns : List Node) where
  innermost_read : (i j : ℕ) → innermostb ns (node_in ns i) (node_in ns j) ≡ true
      → (holds ns i j ≡ true) × ((e : ℕ) → e < length ns → holds ns i e ≡ true → holds ns e j ≡ true → ⊥)
  unfolding innermostb node_in
  innermost_read i j h =
      let p = and_read (holds ns i j) h in
      let q = any_none _ ns (not_read _ p.1) in
      (p.0, λ e l a b. never (and_make a b) (all_at _ ns e (node 0 0 0 0) l q))

  innermost_make : (i j : ℕ) → holds ns i j ≡ true → ((e : ℕ) → e < length ns → holds ns i e ≡ true → holds ns e j ≡ true → ⊥)
      → innermostb ns (node_in ns i) (node_in ns j) ≡ true
  unfolding innermostb node_in
  innermost_make i j h f =
      and_make h (ap not (none_any _ ns (at_all _ ns (node 0 0 0 0) (λ e l. not_so (λ q. let p = and_read (holds ns i e) q in f e l p.0 p.1)))))

module _ (ns : List Node) (ok : AcceptedList ns) (i : ℕ) (l : i < length ns) where
  -- The last node that contains a node is its parent.
  pub last_is_parent : (p : ℕ) → Last (holds ns i) i p → parent_of ns i ≡ p
  unfolding parent_of indices
  last_is_parent p h =
      first_is (λ j. innermostb ns (node_in ns i) (node_in ns j)) (omega (arith, ok.short)) (record {
        found = λ k. let f = h.found k in (
          omega (arith, f.0),
          innermost_make ns i p f.1 (λ e m a b.
              never a (h.last e (contains_before ns ok i e m a) (λ z. contains_before ns ok e p (omega (arith, f.0)) b))),
        );
        first = λ j m z. not_so (λ q.
            let r = innermost_read ns i j q in
            elim (none_or_not p) [
              | inl e ↦ never r.0 (h.last j (contains_before ns ok i j m r.0) (λ y. absurd (y e)))
              | inr e ↦ let f = h.found e in r.1 p (omega (arith, f.0)) f.1 (contains_between ns ok i p j (z e) f.0 l r.0)
            ]);
      })

  pub parent_last : Last (holds ns i) i (parent_of ns i)
  parent_last = let h = last_of_lem (holds ns i) i (omega (arith, ok.short)) in subst (Last (holds ns i) i) (sym (last_is_parent _ h)) h

module _ (ns : List Node) (ok : AcceptedList ns) where
  -- Parents come before their children.
  pub parent_before : (i : ℕ) → i < length ns → (parent_of ns i ≡ NONE → ⊥) → parent_of ns i < i
  parent_before i l h = ((parent_last ns ok i l).found h).0

  -- Nodes with one parent are of one document.
  pub one_document : (i j : ℕ) → i < length ns → j < length ns → (parent_of ns i ≡ NONE → ⊥) → parent_of ns j ≡ parent_of ns i
      → (node_in ns j).document ≡ (node_in ns i).document
  one_document i j l m h q =
      let v = within _ _ ((parent_last ns ok i l).found h).1 in
      let w = within _ _ ((parent_last ns ok j m).found (λ z. h (sym q ∙ z))).1 in
      w.document ∙ ap (λ p. (node_in ns p).document) q ∙ sym v.document

-- Siblings have one document and one parent.
module _ (ns : List Node) where
  pub sibling_read : (i j : ℕ) → siblingb ns i j ≡ true → ((node_in ns j).document ≡ (node_in ns i).document) × (parent_of ns j ≡ parent_of ns i)
  unfolding siblingb
  sibling_read i j h =
      let p = and_read (eqb (node_in ns j).document (node_in ns i).document) h in
      (eqb-true _ _ p.0, eqb-true _ _ p.1)

  pub sibling_make : (i j : ℕ) → (node_in ns j).document ≡ (node_in ns i).document → parent_of ns j ≡ parent_of ns i → siblingb ns i j ≡ true
  unfolding siblingb
  sibling_make i j d p = and_make (eq-eqb _ _ d) (eq-eqb _ _ p)
