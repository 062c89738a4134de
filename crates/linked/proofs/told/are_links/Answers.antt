-- Function: `are_links` (src/told.rt).
-- Why it holds: At each turn the links are those that the nodes passed tell. After the last node,
-- which ends its document, all of them are.
-- What would break it: A node passed over would be caught at the next turn, and a last node that is
-- not compared at the last return.
use Prim.Native.Nat.{ℕ, suc, ◌*◌, ◌-◌, ◌≤◌, ◌<◌}
use mathlib.Core.Path.{◌≡◌, sym, ap, subst, ◌∙◌}
use mathlib.Core.Logic.{inl, inr}
use mathlib.Core.Bool.{Bool, true, false}
use mathlib.Core.List.{List}
use native.Mathlib.Omega.{arith}
use lib.ListN.{length, get_or}
use Rattle.answers.specs.Answer.{TAKEN}
use Rattle.laws.proofs.Tests.{either}
use Rattle.nodes.specs.declared.node.Node.{Node}
use Rattle.nodes.specs.Words.{MOST_NODES, nodes, count}
use Rattle.nodes.proofs.WordLaws.{length_nodes}
use Rattle.lists.specs.Check.{check_words}
use Rattle.lists.proofs.Taken.{words_taken_iff}
use Rattle.forest.specs.Links.{NONE, parent_of}
use Rattle.forest.proofs.Containing.{accepted_list}
use Rattle.linked.specs.Check.{linkedb}
use Rattle.linked.specs.Private.Told.{LastOfDocument, Told, AllTold, Shows}
use Rattle.linked.proofs.InWords.{all_linked, not_linked, other_length}
use Rattle.linked.proofs.Kin.{start_parentless}
use Rattle.linked.proofs.Telling.{told_first}
use Rattle.linked.proofs.told.are_links.Goals as goal
use Rattle.linked.proofs.told.are_links.Goals.{then-count-gt-MOST_NODES-via-then-count-gt-MOST_NODES, then-count-gt-MOST_NODES-via-else-count-gt-MOST_NODES+then-links-count}

module _ (list links : List ℕ) (n : ℕ) (q : n ≡ count list) where
  abbrev ns : List Node
  ns = nodes list

  all : length ns ≡ n
  all = length_nodes list ∙ sym q

  too_long : MOST_NODES < n → (check_words list).answer ≡ TAKEN → false ≡ linkedb list links
  too_long l h = let w = ((words_taken_iff list).0 h).1 in absurd (omega (arith, q))

  wrong_length : (length links ≡ 3 * n → ⊥) → false ≡ linkedb list links
  wrong_length h = other_length list links (λ z. h (z ∙ ap (λ k. 3 * k) (sym q)))

  module _ (l : length links ≡ 3 * n) where
    long : length links ≡ 3 * count list
    long = l ∙ ap (λ k. 3 * k) q

    no_node : n ≡ 0 → true ≡ linkedb list links
    no_node z =
        all_linked list links
        (record { parents = λ j a. absurd (omega (arith, all)); children = λ j a. absurd (omega (arith, all)); nexts = λ j a. absurd (omega (arith, all)) })
        long

    module _ (m : n ≡ 0 → ⊥) (h : (check_words list).answer ≡ TAKEN) where
      root : parent_of ns 0 ≡ NONE
      root = start_parentless ns (accepted_list list h) (omega (arith, all, m))

      root_wrong : (get_or links 0 0 ≡ NONE → ⊥) → false ≡ linkedb list links
      root_wrong w = not_linked list links (λ t. w (t.parents 0 (omega (arith, all, m)) ∙ root))

      begins : get_or links 0 0 ≡ NONE → Told ns links 0
      begins w = told_first ns links (w ∙ sym root)

      -- The last node of the list is the last of its document.
      at_end : (i : ℕ) → i ≤ n → n ≤ i → Told ns links (i - 1) → (r : Bool)
          → ((list : List ℕ) → (check_words list).answer ≡ TAKEN → n - 1 < count list → LastOfDocument (nodes list) (n - 1)
          → Told (nodes list) links (n - 1) → Shows (nodes list) links (AllTold (nodes list) links (suc (n - 1))) r)
          → r ≡ linkedb list links
      at_end i a b t r f =
          let e : i ≡ n = omega arith in
          let last = f list h (omega (arith, q, m)) (λ j c k d. omega (arith, all, m)) (subst (λ k. Told ns links (k - 1)) e t) in
          let whole : suc (n - 1) ≡ length ns = omega (arith, all, m) in
          elim (either r) [
            | inl z ↦ z ∙ all_linked list links (subst (AllTold ns links) whole (last.yes z)) long
            | inr z ↦ z ∙ not_linked list links (last.no z)
          ]

pub returns-then-count-gt-MOST_NODES : goal.returns-then-count-gt-MOST_NODES
returns-then-count-gt-MOST_NODES c h =
    let a = c.args in
    elim c.then-count-gt-MOST_NODES.branch [
      | then-count-gt-MOST_NODES-via-then-count-gt-MOST_NODES w ↦
          too_long a.list.now a.links.now _ c.node_count-count.ensures w.if-count-gt-MOST_NODES.true h
      | then-count-gt-MOST_NODES-via-else-count-gt-MOST_NODES+then-links-count w ↦
          wrong_length a.list.now a.links.now _ c.node_count-count.ensures w.if-links-count.true
    ]

pub returns-then-count-eq0 : goal.returns-then-count-eq0
returns-then-count-eq0 c h =
    let a = c.args in
    no_node a.list.now a.links.now _ c.node_count-count.ensures c.if-links-count.false (omega arith)

pub returns-then-links : goal.returns-then-links
returns-then-links c h =
    let a = c.args in
    root_wrong a.list.now a.links.now _ c.node_count-count.ensures c.if-links-count.false (λ z. omega arith) h c.if-links.true

pub loop-index-init : goal.loop-index-init
loop-index-init c =
    let a = c.args in (
      omega arith,
      omega arith,
      λ h.
          begins a.list.now a.links.now _ c.node_count-count.ensures c.if-links-count.false (λ z. omega arith) h c.if-links.false,
    )

pub returns-then-not-is_node_told : goal.returns-then-not-is_node_told
returns-then-not-is_node_told c h =
    let a = c.args in
    let v = c.loop-index.invariant in
    not_linked a.list.now a.links.now ((c.is_node_told.ensures h (v.2 h)).no (c.if-not-is_node_told.true))

pub returns : goal.returns
returns c h =
    let a = c.args in
    let v = c.loop-index.invariant in
    at_end a.list.now a.links.now _ c.node_count-count.ensures c.if-links-count.false (λ z. omega arith) h
    _ v.1 c.loop-index-test.false (v.2 h) _ c.is_last_told.ensures
