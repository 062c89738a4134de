-- Why it holds: The first node of a document has no parent and no elder (the elder is the last
-- sibling before a node). For any other the node before is the parent, if that hasn't ended.
-- Otherwise the way up from there leads through nodes that contain all that was passed, so it
-- misses no container. The node passed last is the last one with the parent that is found: the
-- elder.
-- What would break it: A climb that skipped a parent, or an elder that is not the last, would be
-- caught here.
use mathlib.Core.Path.{◌≡◌, refl, sym, ap, ◌∙◌}
use mathlib.Core.Logic.{inl, inr}
use mathlib.Core.Bool.{true, false}
use mathlib.Core.List.{List}
use Prim.Native.Nat.{ℕ, suc, ◌-◌, ◌≤◌, ◌<◌}
use native.Mathlib.Nat.{eq-or-lt_of_le}
use native.Mathlib.Omega.{arith}
use lib.Dec.{ltb, eqb}
use lib.ListN.{length}
use borrow.Author.Tests.{ltb-true, ltb-false, eq-eqb, ne_eqb, eqb-true, eqb-false}
use Rattle.nodes.specs.declared.node.Node.{Node}
use Rattle.nodes.proofs.NodeLaws.{within, inside_trans}
use Rattle.laws.proofs.Tests.{either, never, not_so, not_none}
use Rattle.forest.specs.Private.Climb.{Ended, Elder, firstb}
use Rattle.forest.specs.Links.{NONE, node_in, parent_of, siblingb}
use Rattle.forest.proofs.Containing.{AcceptedList, documents, inside_unended, outside_ended, contains_between}
use Rattle.forest.proofs.Parents.{holds, last_is_parent, parent_last, parent_before, sibling_read, sibling_make}

-- The two answers of the test for a document's first node.
module _ (ns : List Node) (i : ℕ) where
  first_read : firstb ns i ≡ true → 0 < i → (node_in ns (i - 1)).document ≡ (node_in ns i).document → ⊥
  unfolding firstb
  first_read h k d = never h (rw (ne_eqb i 0 (λ z. omega arith), eq-eqb _ _ d) refl)

  pub not_first : firstb ns i ≡ false → (0 < i) × ((node_in ns (i - 1)).document ≡ (node_in ns i).document)
  unfolding firstb
  not_first h =
      elim (either (eqb i 0)) [
        | inl z ↦ absurd (never refl (rw z at h))
        | inr z ↦ let d = not_none (eqb (node_in ns (i - 1)).document (node_in ns i).document) (rw z at h) in
            (omega (arith, eqb-false i 0 z), eqb-true _ _ d)
      ]

-- On the way up from node i, p was passed. It stands before i in i's document and contains all
-- nodes between the two. No node from p on contains i.
pub record Passed (ns : List Node) (i p : ℕ) : Type 0 where
  pub before : p < i
  pub document : (node_in ns p).document ≡ (node_in ns i).document
  pub between : (j : ℕ) → p < j → j < i → holds ns j p ≡ true
  pub outside : (j : ℕ) → p ≤ j → j < i → holds ns i j ≡ false

module _ (ns : List Node) (ok : AcceptedList ns) (i : ℕ) (l : i < length ns) where
  -- The first node of a document has neither a parent nor a sibling before it.
  module _ (f : firstb ns i ≡ true) where
    other_document : (j : ℕ) → j < i → (node_in ns j).document ≡ (node_in ns i).document → ⊥
    other_document j k d =
        let a = documents ns ok j (i - 1) (omega arith) (omega arith) in
        let b = documents ns ok (i - 1) i (omega arith) l in
        first_read ns i f (omega arith) (omega arith)

    pub first_parentless : parent_of ns i ≡ NONE
    first_parentless =
        last_is_parent ns ok i l NONE (record {
          found = λ n. absurd (n refl);
          last = λ j k z. not_so (λ h. other_document j k (sym (within _ _ h).document));
        })

    pub first_alone : (j : ℕ) → j < i → siblingb ns i j ≡ false
    first_alone j k = not_so (λ s. other_document j k (sibling_read ns i j s).0)

  -- The node before, if it is of the node's document and has not ended, is its parent and has no
  -- child yet.
  module _ (p : ℕ) (q : suc p ≡ i) (d : (node_in ns p).document ≡ (node_in ns i).document) (h : (node_in ns i).start ≤ (node_in ns p).end) where
    pub before_parent : parent_of ns i ≡ p
    before_parent =
        last_is_parent ns ok i l p (record {
          found = λ n. (omega arith, inside_unended ns ok p i (omega arith) l d h);
          last = λ j k z. absurd (omega (arith, z (λ y. omega (arith, ok.short))));
        })

    pub before_childless : (j : ℕ) → j < i → siblingb ns i j ≡ false
    before_childless j k =
        not_so (λ s. let r = (sibling_read ns i j s).1 ∙ before_parent in
        omega (arith, r, parent_before ns ok j (omega arith) (λ z. omega (arith, ok.short, r, z))))

  -- If it has ended, the way up begins there.
  pub pass_before : Ended ns i → Passed ns i (i - 1)
  pass_before h = record {
    before = omega (arith, h.later);
    document = h.document;
    between = λ j a b. absurd (omega arith);
    outside = λ j a b. let e : j ≡ i - 1 = omega arith in ap (holds ns i) e ∙ outside_ended ns ok (i - 1) i l h.ended;
  }

  module _ (e : ℕ) (c : Passed ns i e) where
    early : e < length ns
    early = omega (arith, c.before)

    -- What contains the node also contains what was passed, so no node after the parent of that
    -- does.
    none_after : (j : ℕ) → j < i → ((parent_of ns e ≡ NONE → ⊥) → parent_of ns e < j) → holds ns i j ≡ false
    none_after j k h =
        elim (either (ltb j e)) [
          | inl a ↦ let b = ltb-true j e a in
              not_so (λ t. never (contains_between ns ok i e j b c.before l t) ((parent_last ns ok e early).last j b h))
          | inr a ↦ c.outside j (ltb-false j e a) k
        ]

    -- That parent is of the node's document.
    parent_document : (parent_of ns e ≡ NONE → ⊥) → (node_in ns (parent_of ns e)).document ≡ (node_in ns i).document
    parent_document n = sym (within _ _ ((parent_last ns ok e early).found n).1).document ∙ c.document

    -- If that parent ended before the node, it is passed as well.
    pub pass_parent : (parent_of ns e ≡ NONE → ⊥) → (node_in ns (parent_of ns e)).end < (node_in ns i).start → Passed ns i (parent_of ns e)
    pass_parent n h =
        let f = (parent_last ns ok e early).found n in
        record {
          before = omega (arith, f.0, c.before);
          document = parent_document n;
          between = λ j a b. elim (either (ltb e j)) [
            | inl d ↦ inside_trans _ _ _ (c.between j (ltb-true e j d) b) f.1
            | inr d ↦ elim (eq-or-lt_of_le (ltb-false e j d)) [
              | inl q ↦ ap (λ x. holds ns x (parent_of ns e)) q ∙ f.1
              | inr q ↦ contains_between ns ok e j (parent_of ns e) a q early f.1
            ]
          ];
          outside = λ j a b. elim (eq-or-lt_of_le a) [
            | inl q ↦ ap (holds ns i) (sym q) ∙ outside_ended ns ok (parent_of ns e) i l h
            | inr q ↦ none_after j b (λ z. q)
          ];
        }

    -- If it did not, or there is none, what was passed is the elder.
    module _ (h : (parent_of ns e ≡ NONE → ⊥) → (node_in ns i).start ≤ (node_in ns (parent_of ns e)).end) where
      same_parent : parent_of ns e ≡ parent_of ns i
      same_parent =
          sym (last_is_parent ns ok i l (parent_of ns e) (record {
            found = λ n. let b : parent_of ns e < i = omega (arith, parent_before ns ok e early n, c.before) in
                (b, inside_unended ns ok (parent_of ns e) i b l (parent_document n) (h n));
            last = none_after;
          }))

      pub elder_passed : Elder ns i e
      elder_passed = record {
        before = c.before;
        sibling = sibling_make ns i e c.document same_parent;
        last = λ j a b. not_so (λ s.
            let q : parent_of ns j ≡ parent_of ns e = (sibling_read ns i j s).1 ∙ sym same_parent in
            never (c.between j a b) ((parent_last ns ok j (omega arith)).last e a
            (λ z. omega (arith, parent_before ns ok e early (λ y. z (q ∙ y)), q))));
      }
