-- Function: `pass_next` (src/both.rt).
-- Why it holds: The innermost node left open tells whether the next one has a fault. Where it has
-- none, it is put on top, and the list goes on after it.
-- What would break it: A test of another word, or a node put one place off, would be caught at the
-- returns.
use mathlib.Core.Path.{◌≡◌}
use mathlib.Core.Logic.{inl}
use mathlib.Core.List.{List}
use Prim.Native.Nat.{ℕ, ◌+◌, ◌*◌, ◌≤◌, ◌<◌}
use native.Mathlib.Omega.{arith}
use lib.ListN.{length}
use Rattle.nodes.specs.declared.node.Node.{Node}
use Rattle.nodes.specs.Node.{MOST_LEVELS}
use Rattle.laws.specs.Choose.{All}
use Rattle.lists.specs.declared.both.RunPlace.{RunPlace}
use Rattle.lists.specs.Private.Both.{Ahead, PAST}
use Rattle.lists.specs.Private.Open.{Holds, Laid}
use Rattle.lists.specs.Private.Merge.{Cut}
use Rattle.lists.specs.Private.Walk.{node_from, unended}
use Rattle.lists.proofs.Keeping.{clean}
use Rattle.lists.proofs.Runs.{ahead_there, Arriving, end_late, level_low, no_fault, room_upon, put_upon, passed_next}
use Rattle.lists.proofs.StackLaws.{held_asks}
use Rattle.lists.proofs.both.pass_next.Goals as goal

-- What is left open at the node at the place, which is whole, of the document, and starts where the
-- place says.
arrives : (document : ℕ) (words : List ℕ) (place : RunPlace) (stack : List ℕ) (left : ℕ)
    → Cut place.at words → Ahead words place.at document place.start → place.start < PAST
    → left ≤ place.top
    → ((m : Node) (es : List Node) → m.start ≡ place.start → All (λ e. e.document ≡ m.document) es
    → Laid es place.top stack → Laid (unended m es) left stack)
    → (s : List Node) → Holds document place.start place.top stack s
    → Arriving document place.start place.top left stack s (node_from words place.at)
arrives document words place stack left cut ahead low under leaves s h =
    let t = ahead_there words place.at document place.start cut ahead low in
    record { same = t.1; there = t.2; holds = h; under = under; leaves = leaves }

pub bounds-words-at : goal.bounds-words-at
bounds-words-at c =
    let a = c.args in
    let r = c.requires in
    let t = ahead_there a.words.now a.place.at a.document a.place.start r.0 r.1 r.2 in
    omega arith

pub bounds-words-at-2 : goal.bounds-words-at-2
bounds-words-at-2 c =
    let a = c.args in
    let r = c.requires in
    let t = ahead_there a.words.now a.place.at a.document a.place.start r.0 r.1 r.2 in
    omega arith

pub returns-then-end-start : goal.returns-then-end-start
unfolding node_from
returns-then-end-start c =
    let a = c.args in
    let r = c.requires in
    let t = ahead_there a.words.now a.place.at a.document a.place.start r.0 r.1 r.2 in
    λ s h. inl (λ f. let g = (clean s (node_from a.words.now a.place.at) f).0.span in omega arith)

pub returns-then-level-gt-MOST_LEVELS : goal.returns-then-level-gt-MOST_LEVELS
unfolding node_from
returns-then-level-gt-MOST_LEVELS c =
    let a = c.args in
    λ s h. inl (λ f. let g = (clean s (node_from a.words.now a.place.at) f).0.highest in omega arith)

pub left_open-left-requires : goal.left_open-left-requires
left_open-left-requires c =
    let a = c.args in
    held_asks a.document a.place.start a.place.top a.stack.now c.requires.3

pub returns-then-stack-left : goal.returns-then-stack-left
unfolding node_from
returns-then-stack-left c =
    let a = c.args in
    let r = c.requires in
    let o = c.left_open-left in
    let most = c.type_inv.words (a.place.at + 2) in
    λ s h. inl (end_late (arrives a.document a.words.now a.place a.stack.now o.result r.0 r.1 r.2 o.ensures.under o.ensures.left s h) (omega arith) (omega arith))

pub returns-then-level-stack : goal.returns-then-level-stack
unfolding node_from
returns-then-level-stack c =
    let a = c.args in
    let r = c.requires in
    let o = c.left_open-left in
    λ s h. inl (level_low (arrives a.document a.words.now a.place a.stack.now o.result r.0 r.1 r.2 o.ensures.under o.ensures.left s h) (omega arith) (omega arith))

pub put_open-requires : goal.put_open-requires
unfolding node_from
put_open-requires c =
    let a = c.args in
    let r = c.requires in
    let o = c.left_open-left in
    let t = ahead_there a.words.now a.place.at a.document a.place.start r.0 r.1 r.2 in
    let room : o.result + 2 ≤ 2 * MOST_LEVELS =
    room_upon (arrives a.document a.words.now a.place a.stack.now o.result r.0 r.1 r.2 o.ensures.under o.ensures.left r.3.chain r.3.holds)
    (omega arith) (omega arith) (omega arith) (omega arith) in
    omega arith

pub reach-requires : goal.reach-requires
reach-requires c =
    let a = c.args in
    let r = c.requires in
    let t = ahead_there a.words.now a.place.at a.document a.place.start r.0 r.1 r.2 in
    ((omega arith, omega arith, r.0.2), omega arith)

pub returns : goal.returns
unfolding node_from
returns c =
    let a = c.args in
    let r = c.requires in
    let o = c.left_open-left in
    let t = ahead_there a.words.now a.place.at a.document a.place.start r.0 r.1 r.2 in
    let room : o.result + 2 ≤ 2 * MOST_LEVELS =
    room_upon (arrives a.document a.words.now a.place a.stack.now o.result r.0 r.1 r.2 o.ensures.under o.ensures.left r.3.chain r.3.holds)
    (omega arith) (omega arith) (omega arith) (omega arith) in
    let fits : o.result + 3 < length a.stack.now = omega arith in
    λ s h.
    let n = arrives a.document a.words.now a.place a.stack.now o.result r.0 r.1 r.2 o.ensures.under o.ensures.left s h in
    passed_next a.words.now a.document a.place s (o.result + 2) c.reach.result _
    (no_fault n (omega arith) (omega arith) (omega arith) (omega arith))
    (put_upon n (omega arith) (omega arith) (omega arith) (omega arith) _ fits c.put_open.ensures)
    c.reach.ensures
