-- Why it holds: The way up from a node along its parents meets exactly the nodes that contain it.
-- So the nodes between a node on the way and its parent don't, and theirs was compared before.
-- What would break it: A way that missed a node around the first one, or ended below the elder,
-- would be caught here.
use mathlib.Core.Path.{◌≡◌, sym, ap, subst, ◌∙◌}
use mathlib.Core.Logic.{inl, inr}
use mathlib.Core.Bool.{true}
use mathlib.Core.List.{List}
use Prim.Native.Nat.{ℕ, suc, ◌+◌, ◌*◌, ◌≤◌, ◌<◌}
use native.Mathlib.Nat.{eq-or-lt_of_le}
use native.Mathlib.Omega.{arith}
use lib.Dec.{ltb, eqb}
use lib.ListN.{length, get_or}
use borrow.Author.Tests.{ltb-true, ltb-false, eqb-true, eq-eqb}
use Rattle.nodes.specs.declared.node.Node.{Node}
use Rattle.nodes.proofs.NodeLaws.{within, inside_trans}
use Rattle.laws.proofs.Tests.{either, never, not_so, and_read, and_make}
use Rattle.forest.specs.Private.Climb.{Elder}
use Rattle.forest.specs.Links.{NONE, node_in, parent_of, next_of}
use Rattle.forest.proofs.FirstAndLast.{none_or_not, last_or_below}
use Rattle.forest.proofs.Containing.{AcceptedList, contains_between}
use Rattle.forest.proofs.Parents.{holds, parent_last, sibling_read}
use Rattle.linked.specs.Private.Told.{LastOfDocument, NextTold, ParentTold, ChildTold, Told, AllTold, Shows, sibling_toldb}
use Rattle.linked.proofs.Kin.{next_none, next_elder}
use Rattle.linked.proofs.Telling.{told_more}

-- On the way up from node b, e was reached. It is b or contains it, and contains all nodes between
-- the two. The next siblings of the nodes after e are told.
pub record Way (ns : List Node) (links : List ℕ) (b e : ℕ) : Type 0 where
  pub before : e ≤ b
  pub inside : (j : ℕ) → e < j → j ≤ b → holds ns j e ≡ true
  pub told : (j : ℕ) → e < j → j ≤ b → NextTold ns links j

-- What holds of e, of the numbers after it and of those before it holds of any number.
on_each_side : (P : ℕ → Type 0) (e j : ℕ) → (e < j → P j) → P e → (j < e → P j) → P j
on_each_side P e j after at before =
    elim (either (ltb e j)) [
      | inl a ↦ after (ltb-true e j a)
      | inr a ↦ elim (eq-or-lt_of_le (ltb-false e j a)) [ inl q ↦ subst P (sym q) at | inr q ↦ before q ]
    ]

module _ (ns : List Node) (ok : AcceptedList ns) (links : List ℕ) (b : ℕ) (l : b < length ns) where
  pub way_begins : Way ns links b b
  way_begins = record { before = omega arith; inside = λ j a c. absurd (omega arith); told = λ j a c. absurd (omega arith) }

  module _ (t : Told ns links b) (e : ℕ) (w : Way ns links b e) where
    early : e < length ns
    early = omega (arith, w.before)

    -- What contains b and stands before e contains e.
    around : (j : ℕ) → j < e → holds ns b j ≡ true → holds ns e j ≡ true
    around j k h =
        elim (eq-or-lt_of_le w.before) [
          | inl q ↦ ap (λ x. holds ns x j) q ∙ h
          | inr q ↦ contains_between ns ok b e j k q l h
        ]

    -- So no node between e and its parent contains b, and their next siblings are told.
    between_told : (j : ℕ) → j < e → ((parent_of ns e ≡ NONE → ⊥) → parent_of ns e < j) → NextTold ns links j
    between_told j k z =
        t.nexts j (omega (arith, w.before)) (not_so (λ h. never (around j k h) ((parent_last ns ok e early).last j k z)))

    pub way_up : (parent_of ns e ≡ NONE → ⊥) → NextTold ns links e → Way ns links b (parent_of ns e)
    way_up n q =
        let p = parent_of ns e in
        let f = (parent_last ns ok e early).found n in
        record {
          before = omega (arith, f.0, w.before);
          inside = λ j a c. on_each_side (λ m. holds ns m p ≡ true) e j
              (λ k. inside_trans _ _ _ (w.inside j k c) f.1) f.1 (λ k. contains_between ns ok e j p a k early f.1);
          told = λ j a c. on_each_side (NextTold ns links) e j (λ k. w.told j k c) q (λ k. between_told j k (λ z. a));
        }

    -- At a node without a parent all links up to b are told.
    pub way_ends : parent_of ns e ≡ NONE → NextTold ns links e → ChildTold ns links b → AllTold ns links (suc b)
    way_ends n q child = record {
      parents = λ j a. t.parents j (omega arith);
      children = λ j a. elim (last_or_below a) [ inl z ↦ subst (ChildTold ns links) (sym z) child | inr z ↦ t.children j z ];
      nexts = λ j a. on_each_side (NextTold ns links) e j (λ k. w.told j k (omega arith)) q (λ k. between_told j k (λ z. absurd (z n)));
    }

    -- If b is the last of its document, e has no next sibling.
    pub last_nextless : LastOfDocument ns b → next_of ns e ≡ NONE
    last_nextless last =
        next_none ns ok e b w.inside (λ j a k s. last j a k ((sibling_read ns e j s).0 ∙ document))
      where
        document : (node_in ns e).document ≡ (node_in ns b).document
        document = elim (eq-or-lt_of_le w.before) [
          | inl q ↦ ap (λ k. (node_in ns k).document) q
          | inr q ↦ sym (within _ _ (w.inside b q (omega arith))).document
        ]

    -- If e is the elder of the node after b, the nodes that contain b and not that node were
    -- passed.
    module _ (i : ℕ) (s : suc b ≡ i) (m : i < length ns) (k : Elder ns i e) where
      -- What contains the elder contains the node.
      with_elder : (j : ℕ) → j < e → holds ns e j ≡ true → holds ns i j ≡ true
      with_elder j a h =
          let p = parent_of ns e in
          let q : parent_of ns i ≡ p = sym (sibling_read ns i e k.sibling).1 in
          let up = parent_last ns ok e early in
          elim (none_or_not p) [
            | inl z ↦ absurd (never h (up.last j a (λ y. absurd (y z))))
            | inr z ↦ let own : holds ns i p ≡ true = ap (holds ns i) (sym q) ∙ ((parent_last ns ok i m).found (λ y. z (sym q ∙ y))).1 in
                on_each_side (λ x. holds ns i x ≡ true) p j (λ y. absurd (never h (up.last j a (λ x. y)))) own
                (λ y. inside_trans _ _ _ own (contains_between ns ok e p j y (up.found z).0 early h))
          ]

      elder_told : ParentTold ns links i → ChildTold ns links b → NextTold ns links e → Told ns links i
      elder_told parent child next =
          told_more ns links b i s t.parents t.children parent child (λ j a h.
          on_each_side (NextTold ns links) e j (λ y. w.told j y (omega arith)) next
          (λ y. t.nexts j (omega (arith, w.before)) (not_so (λ g. never (with_elder j y (around j y g)) h))))

      -- So the links at the elder and at the node settle it.
      pub elder_shows : ChildTold ns links b → Shows ns links (Told ns links i) (sibling_toldb links e i)
      unfolding sibling_toldb
      elder_shows child =
          let next = next_elder ns ok i e m k in
          let same = (sibling_read ns i e k.sibling).1 in
          let up = t.parents e w.before in
          record {
            yes = λ h. let p = and_read (eqb (get_or links (3 * e + 2) 0) i) h in
                elder_told (eqb-true _ _ p.1 ∙ up ∙ same) child (eqb-true _ _ p.0 ∙ sym next);
            no = λ h all. never
                (and_make (eq-eqb (get_or links (3 * e + 2) 0) i (all.nexts e early ∙ next))
                (eq-eqb (get_or links (3 * i) 0) (get_or links (3 * e) 0) (all.parents i m ∙ sym same ∙ sym up))) h;
          }
