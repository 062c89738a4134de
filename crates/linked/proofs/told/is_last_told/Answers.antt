-- Function: `is_last_told` (src/told.rt).
-- Why it holds: On the way up each node that contains the last one is met, and none of them has a
-- next sibling. A right parent is before its child, so a word that isn't stands for no parent.
-- Measure: `i`, which is less at each turn because the way goes on only to a node before.
-- What would break it: A way that ends early would be caught where it returns true, and one that
-- passes a next sibling at the loop.
use Prim.Native.Nat.{ℕ, suc, ◌+◌, ◌*◌, ◌≤◌, ◌<◌}
use mathlib.Core.Path.{◌≡◌, sym, subst, ◌∙◌}
use mathlib.Core.Logic.{inl, inr}
use mathlib.Core.Bool.{Bool, true, false}
use mathlib.Core.List.{List}
use native.Mathlib.Omega.{arith}
use lib.ListN.{length, get_or}
use Rattle.answers.specs.Answer.{TAKEN}
use Rattle.nodes.specs.declared.node.Node.{Node}
use Rattle.nodes.specs.Words.{nodes, count}
use Rattle.nodes.proofs.WordLaws.{length_nodes}
use Rattle.lists.specs.Check.{check_words}
use Rattle.forest.specs.Links.{NONE, parent_of}
use Rattle.forest.proofs.Containing.{AcceptedList, accepted_list}
use Rattle.forest.proofs.FirstAndLast.{none_or_not}
use Rattle.forest.proofs.Parents.{parent_before}
use Rattle.linked.specs.Private.Told.{LastOfDocument, NextTold, Told, AllTold, Shows}
use Rattle.linked.proofs.Kin.{last_childless}
use Rattle.linked.proofs.Telling.{shows_yes, shows_no}
use Rattle.linked.proofs.WayUp.{Way, way_up, way_ends, last_nextless}
use Rattle.linked.proofs.told.is_last_told.Goals as goal

module _ (links : List ℕ) (b : ℕ) (list : List ℕ) (h : (check_words list).answer ≡ TAKEN) (l : b < count list)
    (last : LastOfDocument (nodes list) b) (t : Told (nodes list) links b) where
  abbrev ns : List Node
  ns = nodes list

  abbrev ok : AcceptedList ns
  ok = accepted_list list h

  here : b < length ns
  here = omega (arith, length_nodes list)

  abbrev Answers : Bool → Type 0
  Answers r = Shows ns links (AllTold ns links (suc b)) r

  child_wrong : (get_or links (3 * b + 1) 0 ≡ NONE → ⊥) → Answers false
  child_wrong n = shows_no ns links (λ all. n (all.children b here ∙ last_childless ns ok b here last))

  module _ (e : ℕ) (w : Way ns links b e) where
    early : e < length ns
    early = omega (arith, here, w.before)

    up : get_or links (3 * e) 0 ≡ parent_of ns e
    up = t.parents e w.before

    next_wrong : (get_or links (3 * e + 2) 0 ≡ NONE → ⊥) → Answers false
    next_wrong n = shows_no ns links (λ all. n (all.nexts e early ∙ last_nextless ns ok links b here t e w last))

    module _ (q : get_or links (3 * e + 2) 0 ≡ NONE) where
      next_right : NextTold ns links e
      next_right = q ∙ sym (last_nextless ns ok links b here t e w last)

      goes_up : get_or links (3 * e) 0 < e → Way ns links b (get_or links (3 * e) 0)
      goes_up k =
          subst (Way ns links b) (sym up)
          (way_up ns ok links b here t e w (λ z. omega (arith, up, early, ok.short)) next_right)

      ends : e ≤ get_or links (3 * e) 0 → get_or links (3 * b + 1) 0 ≡ NONE → Answers true
      ends k c =
          let top : parent_of ns e ≡ NONE = elim (none_or_not (parent_of ns e)) [
            | inl z ↦ z
            | inr z ↦ absurd (omega (arith, up, parent_before ns ok e early z))
          ] in
          shows_yes ns links (way_ends ns ok links b here t e w top next_right (c ∙ sym (last_childless ns ok b here last)))

pub returns-then-links-index : goal.returns-then-links-index
returns-then-links-index c list h l last t =
    let a = c.args in
    child_wrong a.links.now a.index list h l last t c.if-links-index.true

pub returns-then-i-parent : goal.returns-then-i-parent
returns-then-i-parent c list h l last t =
    let a = c.args in
    let v = c.loop-i.invariant in
    ends a.links.now a.index list h l last t _ (v.1 list h l last t) c.loop-i-test.true c.if-i-parent.true
    c.if-links-index.false

pub loop-i-preserved : goal.loop-i-preserved
loop-i-preserved c =
    let a = c.args in
    let v = c.loop-i.invariant in (
      omega (arith, v.0),
      λ list h l last t.
          goes_up a.links.now a.index list h l last t _ (v.1 list h l last t) c.loop-i-test.true c.if-i-parent.false,
    )

pub returns : goal.returns
returns c list h l last t =
    let a = c.args in
    let v = c.loop-i.invariant in
    next_wrong a.links.now a.index list h l last t _ (v.1 list h l last t) c.loop-i-test.false
