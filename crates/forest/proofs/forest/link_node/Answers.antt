-- Function: `link_node` (src/forest.rt).
-- Why it holds: Each return is one way in which a node joins the links: alone, as a first child or
-- as a next sibling.
-- What would break it: Another parent than the one found, or a link stored with the wrong node,
-- would be caught at its return.
use Prim.Native.Nat.{ℕ, suc, ◌+◌, ◌*◌, ◌-◌, ◌/◌, ◌≤◌, ◌<◌}
use mathlib.Core.Path.{◌≡◌, sym, ap, ◌∙◌}
use mathlib.Core.Bool.{Bool, true, false}
use mathlib.Core.List.{List}
use native.Mathlib.Omega.{arith}
use lib.ListN.{length, get_or, set}
use lib.Seq.{sets}
use Rattle.nodes.specs.declared.node.Node.{Node}
use Rattle.answers.specs.Answer.{TAKEN}
use Rattle.nodes.specs.Words.{nodes, count, node_at}
use Rattle.answers.specs.Output.{written}
use Rattle.nodes.proofs.WordLaws.{length_nodes}
use Rattle.lists.specs.Check.{check_words}
use Rattle.forest.specs.Private.Climb.{Linking, Ended, Elder, firstb, link, links_to, word_of}
use Rattle.forest.specs.Links.{NONE, node_in, parent_of, link_words}
use Rattle.forest.proofs.Climbing.{not_first, first_parentless, first_alone, before_parent, before_childless}
use Rattle.forest.proofs.Containing.{AcceptedList, accepted_list, node_in_lem}
use Rattle.forest.proofs.LinkLaws.{word_back, parent_word, joined_alone, joined_child, joined_next}
use Rattle.forest.proofs.Parents.{sibling_read}
use Rattle.forest.proofs.forest.link_node.Goals as goal

module _ (ws : List ℕ) (h : (check_words ws).answer ≡ TAKEN) (i : ℕ) (l : i < count ws) where
  abbrev ok : AcceptedList (nodes ws)
  ok = accepted_list ws h

  here : i < length (nodes ws)
  here = omega (arith, length_nodes ws)

  small : i < NONE
  small = omega (arith, here, ok.short)

  -- The node before is of the same document unless this one is the first.
  module _ (b : Bool) (q : b ≡ firstb (nodes ws) i) (t : b ≡ false) where
    ended : (n x : Node) → n ≡ node_at ws i → x ≡ node_at ws (i - 1) → x.end < n.start → Ended (nodes ws) i
    ended n x r s e =
        let f = not_first (nodes ws) i (sym q ∙ t) in
        record { later = f.0; document = f.1; ended = rw (← node_in_lem ws i n r, ← node_in_lem ws (i - 1) x s) e }

  module _ (out : List ℕ) (m : count ws ≤ length out / 3) (k : Linking (nodes ws) i out) where
    -- The words with the node's own links written.
    abbrev under : ℕ → List ℕ
    under p = sets out (3 * i) (link_words (link p NONE NONE))

    abbrev all : List ℕ
    all = written (links_to (nodes ws) (i + 1)) out

    first_joins : (b : Bool) → b ≡ firstb (nodes ws) i → b ≡ true → under NONE ≡ all
    first_joins b q t =
        let f = sym q ∙ t in
        let p = first_parentless (nodes ws) ok i here f in
        ap under (sym p) ∙ joined_alone (nodes ws) ok i here out (omega arith) k (first_alone (nodes ws) ok i here f) p

    child_joins : (b : Bool) → b ≡ firstb (nodes ws) i → b ≡ false → (n x : Node) → n ≡ node_at ws i → x ≡ node_at ws (i - 1)
        → n.start ≤ x.end → set (under (i - 1)) (3 * (i - 1) + 1) i ≡ all
    child_joins b q t n x r s e =
        let f = not_first (nodes ws) i (sym q ∙ t) in
        let j : suc (i - 1) ≡ i = omega (arith, f.0) in
        let v : (node_in (nodes ws) i).start ≤ (node_in (nodes ws) (i - 1)).end = rw (← node_in_lem ws i n r, ← node_in_lem ws (i - 1) x s) e in
        let p = before_parent (nodes ws) ok i here (i - 1) j f.1 v in
        ap (λ z. set (under z) (3 * (i - 1) + 1) i) (sym p)
        ∙ joined_child (nodes ws) ok i here out (omega arith) k (before_childless (nodes ws) ok i here (i - 1) j f.1 v) (i - 1) p (omega arith)

    next_joins : (e p : ℕ) → Elder (nodes ws) i e → p ≡ get_or out (3 * e) 0 → set (under p) (3 * e + 2) i ≡ all
    next_joins e p v q =
        let r : p ≡ parent_of (nodes ws) i =
        q ∙ parent_word (nodes ws) i e out v.before k ∙ (sibling_read (nodes ws) i e v.sibling).1 in
        ap (λ z. set (under z) (3 * e + 2) i) r ∙ joined_next (nodes ws) ok i here out (omega arith) k e v

pub returns-then-is_first : goal.returns-then-is_first
returns-then-is_first c =
    let a = c.args in
    let p = c.requires in
    c.put_leaf.ensures
    ∙ first_joins a.list.now p.0 a.index p.1 a.out.now p.2 p.3 _ c.is_first.ensures c.if-is_first.true

pub overflow_cast-before : goal.overflow_cast-before
overflow_cast-before c =
    let a = c.args in
    let p = c.requires in
    omega (arith, small a.list.now p.0 a.index p.1)

pub overflow_cast-index : goal.overflow_cast-index
overflow_cast-index c =
    let a = c.args in
    let p = c.requires in
    omega (arith, small a.list.now p.0 a.index p.1)

pub returns-then-node_at : goal.returns-then-node_at
returns-then-node_at c =
    let a = c.args in
    let p = c.requires in
    c.put_kin.ensures ∙ ap (λ ws. set ws (3 * (a.index - 1) + 1) a.index) c.put_leaf-then-node_at.ensures
    ∙ child_joins a.list.now p.0 a.index p.1 a.out.now p.2 p.3 _ c.is_first.ensures
    c.if-is_first.false _ _ c.node_at.ensures c.node_at-2.ensures c.if-node_at.true

pub elder_of-elder-requires : goal.elder_of-elder-requires
elder_of-elder-requires c =
    let a = c.args in
    let p = c.requires in
    let e = ended a.list.now p.0 a.index p.1 _ c.is_first.ensures c.if-is_first.false
    _ _ c.node_at.ensures c.node_at-2.ensures c.if-node_at.false in
    (p.0, p.1, omega (arith, p.1, p.2), p.3, e)

pub overflow_cast-index-2 : goal.overflow_cast-index-2
overflow_cast-index-2 c =
    let a = c.args in
    let p = c.requires in
    omega (arith, small a.list.now p.0 a.index p.1)

pub returns : goal.returns
returns c =
    let a = c.args in
    let p = c.requires in
    let e = c.elder_of-elder in
    c.put_kin-2.ensures ∙ ap (λ ws. set ws (3 * e.result + 2) a.index) c.put_leaf-2.ensures
    ∙ next_joins a.list.now p.0 a.index p.1 a.out.now p.2 p.3 _ _ e.ensures (ap word_of c.parent_at-parent.ensures ∙ word_back _)
