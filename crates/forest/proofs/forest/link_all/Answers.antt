-- Function: `link_all` (src/forest.rt).
-- Why it holds: The first node has no kin yet. At each turn the output begins with the links as far
-- as the nodes passed tell them. Each turn adds one node.
-- What would break it: A node passed over, or a turn that touches words beyond the links, would be
-- caught at the next turn.
use mathlib.Core.Path.{◌≡◌, refl, sym, ap, ◌∙◌}
use mathlib.Core.Bool.{true}
use mathlib.Core.List.{List}
use Prim.Native.Nat.{ℕ, ◌/◌, ◌<◌}
use native.Mathlib.Omega.{arith}
use lib.ListN.{length}
use lib.Seq.{sets}
use Rattle.nodes.specs.Words.{nodes, count}
use Rattle.nodes.proofs.WordLaws.{length_nodes}
use Rattle.answers.specs.Answer.{TAKEN}
use Rattle.answers.specs.Output.{written}
use Rattle.lists.specs.Check.{check_words}
use Rattle.forest.specs.Links.{NONE, link_words}
use Rattle.forest.specs.Private.Climb.{firstb, link, links_to}
use Rattle.forest.proofs.Climbing.{first_parentless, first_alone}
use Rattle.forest.proofs.Containing.{AcceptedList, accepted_list}
use Rattle.forest.proofs.LinkLaws.{linking, links_none, links_over, links_more, links_all, joined_alone}
use Rattle.forest.proofs.forest.link_all.Goals as goal

module _ (ws : List ℕ) (h : (check_words ws).answer ≡ TAKEN) (l : 0 < count ws) (out : List ℕ) (m : 0 < length out / 3) where
  abbrev ok : AcceptedList (nodes ws)
  ok = accepted_list ws h

  here : 0 < length (nodes ws)
  here = omega (arith, length_nodes ws)

  top : firstb (nodes ws) 0 ≡ true
  unfolding firstb
  top = refl

  -- The first node's links, written before the loop.
  first_joins : sets out 0 (link_words (link NONE NONE NONE)) ≡ written (links_to (nodes ws) 1) out
  first_joins =
      let p = first_parentless (nodes ws) ok 0 here top in
      let k = linking (nodes ws) 0 out out (links_none (nodes ws) out) in
      ap (λ z. sets out 0 (link_words (link z NONE NONE))) (sym p)
      ∙ joined_alone (nodes ws) ok 0 here out m k (first_alone (nodes ws) ok 0 here top) p

pub returns-then-linked-eq0 : goal.returns-then-linked-eq0
returns-then-linked-eq0 c =
    let a = c.args in
    links_none (nodes a.list.now) a.out.now ∙ ap (λ ws. written ws a.out.now) (links_all a.list.now 0 (omega arith))

pub loop-index-init : goal.loop-index-init
loop-index-init c =
    let a = c.args in
    let p = c.requires in
    let first = c.put_leaf.ensures ∙ first_joins a.list.now p.0 (omega arith) a.out.now (omega (arith, p.1)) in
    (refl, first ∙ sym (links_over (nodes a.list.now) 1 1 a.out.now _ (omega arith) first))

pub link_node-requires : goal.link_node-requires
link_node-requires c =
    let l = c.loop-index in
    let p = c.requires in
    let a = c.args in
    (p.0, omega arith, omega arith, linking (nodes a.list.now) l.index _ l.out l.invariant.1, omega arith)

pub loop-index-preserved : goal.loop-index-preserved
loop-index-preserved c =
    let l = c.loop-index in
    let a = c.args in
    let more = links_more (nodes a.list.now) l.index _ l.out _ l.invariant.1 c.link_node.ensures in
    (omega arith, more)

pub shape_of-out : goal.shape_of-out
shape_of-out c = omega (arith, c.loop-index.invariant.0)

pub returns : goal.returns
returns c =
    let l = c.loop-index in
    let a = c.args in
    let p = c.requires in
    let first = c.put_leaf.ensures ∙ first_joins a.list.now p.0 (omega arith) a.out.now (omega (arith, p.1)) in
    l.invariant.1 ∙ links_over (nodes a.list.now) 1 l.index a.out.now _ (omega arith) first
    ∙ ap (λ ws. written ws a.out.now) (links_all a.list.now l.index (omega arith))
