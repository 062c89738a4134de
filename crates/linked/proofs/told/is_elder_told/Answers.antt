-- Function: `is_elder_told` (src/told.rt).
-- Why it holds: At each turn `elder` was passed on the way up, and `parent` is the word for its
-- parent. A node whose parent ended too has no next sibling, and the last one passed is the elder.
-- Measure: `elder`, which is less at each turn because the way goes on only to a node before.
-- What would break it: A way that stops too low or too high would be caught at a return. One that
-- passes a next sibling would be caught at the loop.
use Prim.Native.Nat.{ℕ, ◌+◌, ◌*◌, ◌-◌, ◌≤◌, ◌<◌}
use mathlib.Core.Path.{◌≡◌, refl, sym, ap, subst, ◌∙◌}
use mathlib.Core.Bool.{Bool, false}
use mathlib.Core.List.{List}
use native.Mathlib.Omega.{arith}
use lib.ListN.{length, get_or}
use Rattle.answers.specs.Answer.{TAKEN}
use Rattle.nodes.specs.declared.node.Node.{Node}
use Rattle.nodes.specs.Words.{nodes, count}
use Rattle.nodes.proofs.WordLaws.{length_nodes}
use Rattle.lists.specs.Check.{check_words}
use Rattle.forest.specs.Private.Climb.{Ended}
use Rattle.forest.specs.Links.{NONE, node_in, parent_of}
use Rattle.forest.proofs.Climbing.{Passed, pass_before, pass_parent, elder_passed}
use Rattle.forest.proofs.Containing.{AcceptedList, accepted_list}
use Rattle.forest.proofs.Parents.{parent_before}
use Rattle.linked.specs.Private.Told.{sibling_toldb, ChildTold, Told, Shows}
use Rattle.linked.proofs.InWords.{start_word, end_word}
use Rattle.linked.proofs.Kin.{passed_nextless}
use Rattle.linked.proofs.Telling.{shows_no}
use Rattle.linked.proofs.WayUp.{Way, way_begins, way_up, elder_shows}
use Rattle.linked.proofs.told.is_elder_told.Invariants.{Reached}
use Rattle.linked.proofs.told.is_elder_told.Goals as goal

module _ (list links : List ℕ) (i : ℕ) (l : i < count list) (h : (check_words list).answer ≡ TAKEN) (x : Ended (nodes list) i)
    (t : Told (nodes list) links (i - 1)) where
  abbrev ns : List Node
  ns = nodes list

  abbrev ok : AcceptedList ns
  ok = accepted_list list h

  here : i < length ns
  here = omega (arith, length_nodes list)

  below : i - 1 < length ns
  below = omega (arith, here)

  begins : Reached ns links i (i - 1)
  begins = record { passed = pass_before ns ok i here x; way = way_begins ns ok links (i - 1) below }

  abbrev Answers : Bool → Type 0
  Answers r = Shows ns links (Told ns links i) r

  module _ (e p : ℕ) (q : p ≡ get_or links (3 * e) 0) (w : Reached ns links i e) where
    early : e < length ns
    early = omega (arith, here, w.passed.before)

    up : p ≡ parent_of ns e
    up = q ∙ t.parents e w.way.before

    settles : ((parent_of ns e ≡ NONE → ⊥) → (node_in ns i).start ≤ (node_in ns (parent_of ns e)).end) → ChildTold ns links (i - 1)
        → (r : Bool) → r ≡ sibling_toldb links e i → Answers r
    settles f child r z =
        subst Answers (sym z)
        (elder_shows ns ok links (i - 1) below t e w.way i (omega (arith, x.later)) here (elder_passed ns ok i here e w.passed f) child)

    -- There is no parent.
    at_top : e ≤ p → ChildTold ns links (i - 1) → (r : Bool) → r ≡ sibling_toldb links e i → Answers r
    at_top k = settles (λ n. absurd (omega (arith, up, parent_before ns ok e early n)))

    module _ (k : p < e) where
      there : parent_of ns e ≡ NONE → ⊥
      there n = omega (arith, up, early, ok.short)

      start_here : get_or list (4 * i + 1) 0 ≡ (node_in ns i).start
      start_here = start_word list i l

      end_there : get_or list (4 * p + 2) 0 ≡ (node_in ns (parent_of ns e)).end
      end_there = end_word list p (omega (arith, l, w.passed.before)) ∙ ap (λ m. (node_in ns m).end) up

      -- The parent hasn't ended.
      at_elder : get_or list (4 * i + 1) 0 ≤ get_or list (4 * p + 2) 0 → ChildTold ns links (i - 1) → (r : Bool) → r ≡ sibling_toldb links e i
          → Answers r
      at_elder b = settles (λ n. omega (arith, start_here, end_there))

      -- It has ended.
      module _ (b : get_or list (4 * p + 2) 0 < get_or list (4 * i + 1) 0) where
        ended : (node_in ns (parent_of ns e)).end < (node_in ns i).start
        ended = omega (arith, start_here, end_there)

        next_wrong : (get_or links (3 * e + 2) 0 ≡ NONE → ⊥) → Answers false
        next_wrong n = shows_no ns links (λ all. n (all.nexts e early ∙ passed_nextless ns ok i e here w.passed there ended))

        goes_up : get_or links (3 * e + 2) 0 ≡ NONE → Reached ns links i p
        goes_up n = record {
          passed = subst (Passed ns i) (sym up) (pass_parent ns ok i here e w.passed there ended);
          way = subst (Way ns links (i - 1)) (sym up) (way_up ns ok links (i - 1) below t e w.way there
              (n ∙ sym (passed_nextless ns ok i e here w.passed there ended)));
        }

pub loop-parent-init : goal.loop-parent-init
loop-parent-init c =
    let a = c.args in
    let p = c.requires in
    (omega arith, refl, λ h x t. begins a.list.now a.links.now a.index p.1 h x t)

pub returns-then-start-list : goal.returns-then-start-list
returns-then-start-list c h x t child =
    let a = c.args in
    let p = c.requires in
    let v = c.loop-parent.invariant in
    at_elder a.list.now a.links.now a.index p.1 h x t _ _ v.1 (v.2 h x t)
    c.loop-parent-test.true c.if-start-list.true child _ c.is_sibling_told.ensures

pub returns-then-links-elder : goal.returns-then-links-elder
returns-then-links-elder c h x t child =
    let a = c.args in
    let p = c.requires in
    let v = c.loop-parent.invariant in
    next_wrong a.list.now a.links.now a.index p.1 h x t _ _ v.1 (v.2 h x t)
    c.loop-parent-test.true c.if-start-list.false c.if-links-elder.true

pub loop-parent-preserved : goal.loop-parent-preserved
loop-parent-preserved c =
    let a = c.args in
    let p = c.requires in
    let v = c.loop-parent.invariant in
    let k = c.loop-parent-test.true in (
      omega (arith, v.0, k),
      refl,
      λ h x t.
          goes_up a.list.now a.links.now a.index p.1 h x t _ _ v.1 (v.2 h x t) k c.if-start-list.false c.if-links-elder.false,
    )

pub returns : goal.returns
returns c h x t child =
    let a = c.args in
    let p = c.requires in
    let v = c.loop-parent.invariant in
    at_top a.list.now a.links.now a.index p.1 h x t _ _ v.1 (v.2 h x t)
    c.loop-parent-test.false child _ c.is_sibling_told-2.ensures
