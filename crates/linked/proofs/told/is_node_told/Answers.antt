-- Function: `is_node_told` (src/told.rt).
-- Why it holds: The node before is of another document, is the parent, or has ended. Each case
-- settles the node's parent and the first child of the node before.
-- What would break it: A document or an end that is not compared, or an index one off, would be
-- caught at that case's return.
use Prim.Native.Nat.{ℕ, suc, ◌+◌, ◌*◌, ◌-◌, ◌≤◌, ◌<◌}
use mathlib.Core.Path.{◌≡◌, sym, subst, ◌∙◌}
use mathlib.Core.Bool.{Bool}
use mathlib.Core.List.{List}
use native.Mathlib.Omega.{arith}
use lib.Dec.{eqb}
use lib.ListN.{length, get_or}
use borrow.Author.Tests.{eqb-true, eqb-false, ne_eqb}
use Rattle.answers.specs.Answer.{TAKEN}
use Rattle.nodes.specs.declared.node.Node.{Node}
use Rattle.nodes.specs.Words.{nodes, count}
use Rattle.nodes.proofs.WordLaws.{length_nodes}
use Rattle.lists.specs.Check.{check_words}
use Rattle.forest.specs.Private.Climb.{Ended}
use Rattle.forest.specs.Links.{NONE, node_in, parent_of, child_of}
use Rattle.forest.proofs.Climbing.{before_parent}
use Rattle.forest.proofs.Containing.{AcceptedList, accepted_list, inside_unended}
use Rattle.linked.specs.Private.Told.{LastOfDocument, ChildTold, Told, AllTold, Shows}
use Rattle.linked.proofs.InWords.{document_word, start_word, end_word}
use Rattle.linked.proofs.Kin.{child_next, apart_parentless, last_before, ended_childless}
use Rattle.linked.proofs.Telling.{shows_no, told_apart, told_child}
use Rattle.linked.proofs.told.is_node_told.Goals as goal

module _ (list links : List ℕ) (i : ℕ) (s : 0 < i) (l : i < count list) (h : (check_words list).answer ≡ TAKEN) (t : Told (nodes list) links (i - 1))
  where
    abbrev ns : List Node
    ns = nodes list

    abbrev ok : AcceptedList ns
    ok = accepted_list list h

    here : i < length ns
    here = omega (arith, length_nodes list)

    after : suc (i - 1) ≡ i
    after = omega arith

    document_before : get_or list (4 * (i - 1)) 0 ≡ (node_in ns (i - 1)).document
    document_before = document_word list (i - 1) (omega arith)

    document_here : get_or list (4 * i) 0 ≡ (node_in ns i).document
    document_here = document_word list i l

    abbrev Answers : Bool → Type 0
    Answers r = Shows ns links (Told ns links i) r

    -- A word that isn't the one wanted.
    says_no : (m n : ℕ) → (m ≡ n → ⊥) → (AllTold ns links (length ns) → ⊥) → Answers (eqb m n)
    says_no m n d f = subst Answers (sym (ne_eqb m n d)) (shows_no ns links f)

    -- The node before is of another document.
    module _ (d : get_or list (4 * (i - 1)) 0 ≡ get_or list (4 * i) 0 → ⊥) where
      differ : (node_in ns (i - 1)).document ≡ (node_in ns i).document → ⊥
      differ q = d (document_before ∙ q ∙ sym document_here)

      parentless : parent_of ns i ≡ NONE
      parentless = apart_parentless ns ok (i - 1) i after here differ

      parent_wrong : (get_or links (3 * i) 0 ≡ NONE → ⊥) → Answers (eqb (get_or links (3 * i) 0) NONE)
      parent_wrong n = says_no _ _ n (λ all. n (all.parents i here ∙ parentless))

      by_last : get_or links (3 * i) 0 ≡ NONE → (r : Bool)
          → ((list : List ℕ) → (check_words list).answer ≡ TAKEN → i - 1 < count list → LastOfDocument (nodes list) (i - 1)
          → Told (nodes list) links (i - 1) → Shows (nodes list) links (AllTold (nodes list) links (suc (i - 1))) r)
          → Answers r
      by_last n r f =
          let told = f list h (omega arith) (last_before ns ok (i - 1) i after here differ) t in
          record {
            yes = λ z. told_apart ns links (i - 1) i after (subst (AllTold ns links) after (told.yes z)) (n ∙ sym parentless);
            no = told.no;
          }

    -- It is of the same document.
    module _ (d : get_or list (4 * (i - 1)) 0 ≡ get_or list (4 * i) 0) where
      same : (node_in ns (i - 1)).document ≡ (node_in ns i).document
      same = sym document_before ∙ d ∙ document_here

      start_here : get_or list (4 * i + 1) 0 ≡ (node_in ns i).start
      start_here = start_word list i l

      end_before : get_or list (4 * (i - 1) + 2) 0 ≡ (node_in ns (i - 1)).end
      end_before = end_word list (i - 1) (omega arith)

      -- It hasn't ended.
      module _ (b : get_or list (4 * i + 1) 0 ≤ get_or list (4 * (i - 1) + 2) 0) where
        unended : (node_in ns i).start ≤ (node_in ns (i - 1)).end
        unended = omega (arith, start_here, end_before)

        parent_before : parent_of ns i ≡ i - 1
        parent_before = before_parent ns ok i here (i - 1) after same unended

        child_here : child_of ns (i - 1) ≡ i
        child_here = child_next ns ok (i - 1) i after here parent_before

        child_wrong : (get_or links (3 * (i - 1) + 1) 0 ≡ i → ⊥) → Answers (eqb (get_or links (3 * (i - 1) + 1) 0) i)
        child_wrong n = says_no _ _ n (λ all. n (all.children (i - 1) (omega (arith, here)) ∙ child_here))

        by_parent : get_or links (3 * (i - 1) + 1) 0 ≡ i → Answers (eqb (get_or links (3 * i) 0) (i - 1))
        by_parent n = record {
          yes = λ z. told_child ns links (i - 1) i after t (eqb-true _ _ z ∙ sym parent_before) (n ∙ sym child_here)
              (inside_unended ns ok (i - 1) i (omega arith) here same unended);
          no = λ z all. eqb-false _ _ z (all.parents i here ∙ parent_before);
        }

      -- It has ended.
      module _ (b : get_or list (4 * (i - 1) + 2) 0 < get_or list (4 * i + 1) 0) where
        ended : Ended ns i
        ended = record { later = s; document = same; ended = omega (arith, start_here, end_before) }

        childless : child_of ns (i - 1) ≡ NONE
        childless = ended_childless ns ok i here ended

        child_none_wrong : (get_or links (3 * (i - 1) + 1) 0 ≡ NONE → ⊥) → Answers (eqb (get_or links (3 * (i - 1) + 1) 0) NONE)
        child_none_wrong n = says_no _ _ n (λ all. n (all.children (i - 1) (omega (arith, here)) ∙ childless))

        by_elder : get_or links (3 * (i - 1) + 1) 0 ≡ NONE → (r : Bool)
            → ((check_words list).answer ≡ TAKEN → Ended ns i → Told ns links (i - 1) → ChildTold ns links (i - 1) → Answers r) → Answers r
        by_elder n r f = f h ended t (n ∙ sym childless)

pub returns-then-links-index : goal.returns-then-links-index
returns-then-links-index c h t =
    let a = c.args in
    let p = c.requires in
    by_last a.list.now a.links.now a.index p.0 p.1 h t (λ z. omega arith) c.if-links-index.true _ c.is_last_told.ensures

pub returns-else-links-index : goal.returns-else-links-index
returns-else-links-index c h t =
    let a = c.args in
    let p = c.requires in
    parent_wrong a.list.now a.links.now a.index p.0 p.1 h t (λ z. omega arith) c.if-links-index.false

pub returns-then-links-before : goal.returns-then-links-before
returns-then-links-before c h t =
    let a = c.args in
    let p = c.requires in
    by_parent a.list.now a.links.now a.index p.0 p.1 h t (omega arith) (omega arith) c.if-links-before.true

pub returns-else-links-before : goal.returns-else-links-before
returns-else-links-before c h t =
    let a = c.args in
    let p = c.requires in
    child_wrong a.list.now a.links.now a.index p.0 p.1 h t (omega arith) (omega arith) c.if-links-before.false

pub returns-then-links-before-2 : goal.returns-then-links-before-2
returns-then-links-before-2 c h t =
    let a = c.args in
    let p = c.requires in
    by_elder a.list.now a.links.now a.index p.0 p.1 h t (omega arith) (omega arith) c.if-links-before-2.true _ c.is_elder_told.ensures

pub returns-else-links-before-2 : goal.returns-else-links-before-2
returns-else-links-before-2 c h t =
    let a = c.args in
    let p = c.requires in
    child_none_wrong a.list.now a.links.now a.index p.0 p.1 h t (omega arith) (omega arith) c.if-links-before-2.false
