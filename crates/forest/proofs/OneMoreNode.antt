-- Why it holds: One node more gives its elder a next sibling, or else its parent a first child. No
-- other link changes. Each sibling before the elder has its next one already, and if there is an
-- elder, the parent has its first child.
-- What would break it: A node named twice, or by the wrong kin, would be caught here.
use mathlib.Core.Path.{◌≡◌, sym, ◌∙◌}
use mathlib.Core.Bool.{true, false, ◌&&◌}
use mathlib.Core.List.{List}
use Prim.Native.Nat.{ℕ, suc, ◌≤◌, ◌<◌}
use native.Mathlib.Omega.{arith}
use lib.Dec.{ltb, eqb}
use lib.ListN.{length}
use borrow.Author.Tests.{ltb-true, lt-ltb, le-ltb, eqb-true, eq-eqb, ne_eqb}
use Rattle.nodes.specs.declared.node.Node.{Node}
use Rattle.laws.proofs.Tests.{never, not_so, and_read, and_make}
use Rattle.forest.specs.Private.Climb.{Elder, link, child_to, next_to, link_to}
use Rattle.forest.specs.Links.{NONE, node_in, parent_of, siblingb}
use Rattle.forest.proofs.FirstAndLast.{first_kept, first_added, first_none, none_found}
use Rattle.forest.proofs.Containing.{AcceptedList}
use Rattle.forest.proofs.Parents.{parent_before, one_document, sibling_read, sibling_make}

module _ (ns : List Node) (ok : AcceptedList ns) (i : ℕ) (l : i < length ns) where
  few : suc i ≤ NONE
  few = omega (arith, ok.short)

  -- The node itself has neither child nor next sibling yet.
  none_under : (j : ℕ) → j < suc i → parent_of ns j ≡ i → ⊥
  none_under j k q = omega (arith, few, parent_before ns ok j (omega arith) (λ z. omega (arith, few)))

  pub alone : link_to ns (suc i) i ≡ link (parent_of ns i) NONE NONE
  unfolding link_to child_to next_to
  alone =
      let child = first_none (λ j. eqb (parent_of ns j) i) (suc i) few (λ j k. ne_eqb (parent_of ns j) i (none_under j k)) in
      let next = first_none (λ j. ltb i j && siblingb ns i j) (suc i) few (λ j k. rw (le-ltb i j (omega arith))) in
      λ t. link (parent_of ns i) (child t) (next t)

  -- A first child that is there stays, and a node with another parent gives none.
  child_stays : (j : ℕ) → (parent_of ns i ≡ j → child_to ns i j ≡ NONE → ⊥) → child_to ns (suc i) j ≡ child_to ns i j
  unfolding child_to
  child_stays j h = first_kept (λ m. eqb (parent_of ns m) j) i few (λ t. h (eqb-true (parent_of ns i) j t))

  next_stays : (j : ℕ) → (siblingb ns j i ≡ true → next_to ns i j ≡ NONE → ⊥) → next_to ns (suc i) j ≡ next_to ns i j
  unfolding next_to
  next_stays j h = first_kept (λ m. ltb j m && siblingb ns j m) i few (λ t. h (and_read (ltb j i) t).1)

  module _ (e : ℕ) (k : Elder ns i e) where
    elder_sibling : ((node_in ns e).document ≡ (node_in ns i).document) × (parent_of ns e ≡ parent_of ns i)
    elder_sibling = sibling_read ns i e k.sibling

    child_there : (j : ℕ) → child_to ns (suc i) j ≡ child_to ns i j
    unfolding child_to
    child_there j =
        child_stays j (λ p q. never (eq-eqb _ _ (elder_sibling.1 ∙ p))
        (none_found (λ m. eqb (parent_of ns m) j) i (omega (arith, few)) q e k.before))

    -- No sibling stands between the node and its elder.
    pub none_between : (m : ℕ) → m < i → (ltb e m && siblingb ns e m) ≡ true → ⊥
    none_between m b t =
        let s = elder_sibling in
        let p = and_read (ltb e m) t in
        let q = sibling_read ns e m p.1 in
        never (sibling_make ns i m (q.0 ∙ s.0) (q.1 ∙ s.1)) (k.last m (ltb-true e m p.0) b)

    pub elder_gets : link_to ns (suc i) e ≡ link (parent_of ns e) (child_to ns i e) i
    unfolding link_to next_to
    elder_gets =
        let s = elder_sibling in
        let own = and_make (lt-ltb e i k.before) (sibling_make ns e i (sym s.0) (sym s.1)) in
        let next = first_added (λ m. ltb e m && siblingb ns e m) i few own (λ m b. not_so (none_between m b)) in
        λ t. link (parent_of ns e) (child_there e t) (next t)

    -- A sibling before the elder has its next one already.
    next_there_too : (j : ℕ) → j < i → (j ≡ e → ⊥) → siblingb ns j i ≡ true → next_to ns i j ≡ NONE → ⊥
    unfolding next_to
    next_there_too j b d t q =
        let s = elder_sibling in
        let r = sibling_read ns j i t in
        let u : siblingb ns i j ≡ true = sibling_make ns i j (sym r.0) (sym r.1) in
        let a : e < j → ⊥ = λ z. never u (k.last j z b) in
        never (and_make (lt-ltb j e (omega (arith, a, d))) (sibling_make ns j e (s.0 ∙ r.0) (s.1 ∙ r.1)))
        (none_found (λ m. ltb j m && siblingb ns j m) i (omega (arith, few)) q e k.before)

    pub elder_only : (j : ℕ) → j < i → (j ≡ e → ⊥) → link_to ns (suc i) j ≡ link_to ns i j
    unfolding link_to
    elder_only j b d = λ t. link (parent_of ns j) (child_there j t) (next_stays j (next_there_too j b d) t)

  module _ (none : (j : ℕ) → j < i → siblingb ns i j ≡ false) where
    next_there : (j : ℕ) → j < i → next_to ns (suc i) j ≡ next_to ns i j
    next_there j b = next_stays j (λ t q. let r = sibling_read ns j i t in never (sibling_make ns i j (sym r.0) (sym r.1)) (none j b))

    pub parent_only : (j : ℕ) → j < i → (j ≡ parent_of ns i → ⊥) → link_to ns (suc i) j ≡ link_to ns i j
    unfolding link_to
    parent_only j b d = λ t. link (parent_of ns j) (child_stays j (λ p q. d (sym p)) t) (next_there j b t)

    pub parent_gets : (p : ℕ) → parent_of ns i ≡ p → p < i → link_to ns (suc i) p ≡ link (parent_of ns p) i (next_to ns i p)
    unfolding link_to child_to
    parent_gets p h b =
        let z : parent_of ns i ≡ NONE → ⊥ = λ q. omega (arith, few) in
        let first : (m : ℕ) → m < i → parent_of ns m ≡ p → ⊥ =
        λ m c q. let r = q ∙ sym h in never (sibling_make ns i m (one_document ns ok i m l (omega arith) z r) r) (none m c) in
        let child = first_added (λ m. eqb (parent_of ns m) p) i few (eq-eqb _ _ h) (λ m c. ne_eqb (parent_of ns m) p (first m c)) in
        λ t. link (parent_of ns p) (child t) (next_there p b t)
