-- Function: `sweep_ancestors` (src/ancestors.rt).
-- Why it holds: At each turn, handing out the groups of the ancestors from `i` on gives what
-- handing out all that remains gives. An ancestor that isn't open at the first descendant after it
-- has no group, and neither has any that lies inside it. Without such a descendant no later one has
-- a group.
-- Measure: `length ancestors - i`, the words of the ancestors still to come.
-- What would break it: A group that is lost, served twice or served after the room has run out
-- would be caught at a return or at the next turn.
use mathlib.Core.Path.{◌≡◌, refl, ap, sym, ◌∙◌}
use mathlib.Core.Bool.{true}
use mathlib.Core.List.{List}
use Prim.Native.Nat.{ℕ, ◌+◌, ◌*◌, ◌/◌, ◌%◌, ◌<◌, zero-le}
use native.Mathlib.Omega.{arith}
use lib.ListN.{length, drop}
use Rattle.nodes.specs.declared.node.Node.{Node}
use Rattle.answers.specs.Answer.{TAKEN}
use Rattle.laws.specs.Choose.{first_at}
use Rattle.nodes.specs.Node.{afterb}
use Rattle.nodes.specs.Words.{nodes, node_at}
use Rattle.laws.proofs.Tests.{not_read, not_none}
use Rattle.lists.specs.Two.{check_two}
use Rattle.paging.specs.Private.Serve.{serve}
use Rattle.paging.proofs.Serving.{left_end}
use Rattle.tickets.specs.declared.ticket.Order.TheVariants.{Ancestor}
use Rattle.tickets.specs.Listing.{leaders, followers}
use Rattle.tickets.specs.PairWords.{PAIR_WORDS, pair_words}
use Rattle.pairs.specs.Private.Sweep.{Placed, Running, runningb}
use Rattle.pairs.proofs.Jumps.{jump_rest, none_left}
use Rattle.pairs.proofs.ListingGroups.{sweep_start, sweep_end}
use Rattle.pairs.proofs.SweepStart.{tells_first, tells_later}
use Rattle.pairs.proofs.Zones.{Reached, first_taken, sweep_running, sweep_next, sweep_on, sweep_stop}
use Rattle.pairs.proofs.ancestors.sweep_ancestors.Goals as goal

-- From the first descendant after the ancestor on, all stand after it, and that one is a place.
run_placed : (as' ws : List ℕ) → (check_two as' ws).answer ≡ TAKEN → (i from : ℕ) {to : ℕ} {a : Node} → Placed as' i → i < length as'
    → a ≡ node_at as' (i / 4) → Placed ws from → Reached as' ws (i / 4) (from / 4) → to % 4 ≡ 0
    → to / 4 ≡ first_at (λ d. afterb d a) (drop (from / 4) (nodes ws)) + from / 4 → Placed ws to × Running ws (node_at as' (i / 4)) (to / 4)
run_placed as' ws taken i from i_at inside same from_at reached aligned found =
    let r = sweep_running as' ws taken (i / 4) (from / 4) _ _ (omega (arith, i_at)) same reached found in
    ((from_at.0, aligned, omega (arith, r.from_in, aligned, from_at.0)), r)

pub loop-i-init : goal.loop-i-init
unfolding leaders followers
loop-i-init g c =
    let a = c.args in
    let same : 4 * a.first / 4 ≡ a.first = omega arith in
    let h = c.requires.1 in
    let t = first_taken a.ancestors.now a.descendants.now c.requires.0 in (
      refl,
      (t.1, omega arith, omega (arith, t.1)),
      (t.2, refl, zero-le),
      λ l. zero-le,
      refl,
      λ place s. (
        tells_first place a.ancestors.now t.0 a.first _ s,
        ap (serve pair_words PAIR_WORDS a.out.now 0)
            (sweep_start a.relation Ancestor place (nodes a.ancestors.now) (nodes a.descendants.now) (4 * a.first / 4) (same ∙ s.0)),
      ),
      refl,
    )

pub node_from-ancestor-requires : goal.node_from-ancestor-requires
node_from-ancestor-requires g c = (c.loop-i.invariant.1, c.loop-i-test.true)

pub first_after-from-requires : goal.first_after-from-requires
first_after-from-requires g c = c.loop-i.invariant.2

pub returns-then-descendants-from : goal.returns-then-descendants-from
returns-then-descendants-from g c =
    let a = c.args in
    let l = c.loop-i in
    let i = l.invariant in
    let t = c.loop-i-test.true in
    λ place s.
    let none = none_left a.ancestors.now a.descendants.now c.requires.0 l.i (l.from / 4) _ _ (omega (arith, i.1)) c.node_from-ancestor.ensures i.3
    c.first_after-from.ensures.index (omega (arith, c.if-descendants-from.true)) a.relation place in
    left_end pair_words PAIR_WORDS _ _ i.4 none (i.5 place s).1

pub is_running-requires : goal.is_running-requires
is_running-requires g c =
    let i = c.loop-i.invariant in
    (i.2.0, omega (arith, i.1, c.first_after-from.ensures.aligned))

pub hand_ancestor-turn-requires : goal.hand_ancestor-turn-requires
hand_ancestor-turn-requires g c =
    let a = c.args in
    let l = c.loop-i in
    let i = l.invariant in
    let f = c.first_after-from.ensures in
    let next = run_placed a.ancestors.now a.descendants.now c.requires.0 l.i l.from i.1 c.loop-i-test.true c.node_from-ancestor.ensures i.2 i.3 f.aligned f.index in
    let runs = ap (λ n. runningb a.descendants.now n (c.first_after-from.result / 4)) (sym c.node_from-ancestor.ensures)
    ∙ sym c.is_running.ensures ∙ c.if-is_running.true in
    (c.requires.0, l.invariant.1, c.loop-i-test.true, next.0, i.6, next.1, runs)

pub shape_of-out-then-not-handed : goal.shape_of-out-then-not-handed
shape_of-out-then-not-handed g c =
    let i = c.loop-i.invariant.0 in
    omega arith

pub returns-then-not-handed : goal.returns-then-not-handed
returns-then-not-handed g c =
    let a = c.args in
    let l = c.loop-i in
    let i = l.invariant in
    let t = c.loop-i-test.true in
    λ place s.
    let left = i.5 place s in
    sweep_stop a.ancestors.now a.descendants.now c.requires.0 (l.i / 4) (l.from / 4) _ _ (omega (arith, i.1)) c.node_from-ancestor.ensures
    i.3 c.first_after-from.ensures.index a.relation place _ ((l.i + 4) / 4) (left.0 t) (omega arith)
    _ _ c.hand_ancestor-turn.ensures.handed (not_read _ c.if-not-handed.true) left.1

pub overflow_add-i : goal.overflow_add-i
overflow_add-i g c =
    let t = c.loop-i-test.true in
    let fits = c.well_formed in
    omega arith

pub past_zone-i-requires : goal.past_zone-i-requires
past_zone-i-requires g c =
    ((first_taken c.args.ancestors.now c.args.descendants.now c.requires.0).0, c.loop-i.invariant.1, c.loop-i-test.true)

pub loop-i-smaller-else-not-handed : goal.loop-i-smaller-else-not-handed
loop-i-smaller-else-not-handed g c =
    let t = c.loop-i-test.true in
    omega arith

pub loop-i-preserved-else-not-handed : goal.loop-i-preserved-else-not-handed
loop-i-preserved-else-not-handed g c =
    let a = c.args in
    let l = c.loop-i in
    let i = l.invariant in
    let t = c.loop-i-test.true in
    let done : c.hand_ancestor-turn.result.handed.done ≡ true = not_none _ c.if-not-handed.false in
    let n = c.node_from-ancestor.ensures in
    let f = c.first_after-from.ensures.index in
    let next = run_placed a.ancestors.now a.descendants.now c.requires.0 l.i l.from i.1 t n i.2 i.3 c.first_after-from.ensures.aligned f in (
      omega (arith, i.0),
      (i.1.0, omega (arith, i.1), omega (arith, i.1)),
      next.0,
      sweep_next a.ancestors.now a.descendants.now c.requires.0 (l.i / 4) (l.from / 4) _ _ (omega (arith, i.1)) n i.3 f ((l.i + 4) / 4) (omega arith),
      done,
      λ place s.
          let left = i.5 place s in (
            tells_later place a.ancestors.now (first_taken a.ancestors.now a.descendants.now c.requires.0).0 _ l.i (l.i + 4) (omega arith) left.0,
            sweep_on a.ancestors.now a.descendants.now c.requires.0 (l.i / 4) (l.from / 4) _ _ (omega (arith, i.1)) n
                i.3 f a.relation place _ ((l.i + 4) / 4) (left.0 t) (omega arith) _ _ c.hand_ancestor-turn.ensures.handed done left.1,
          ),
      c.hand_ancestor-turn.ensures.guess,
    )

pub loop-i-smaller : goal.loop-i-smaller
loop-i-smaller g c =
    let t = c.loop-i-test.true in
    let e = c.past_zone-i.ensures.later in
    omega arith

pub loop-i-preserved : goal.loop-i-preserved
loop-i-preserved g c =
    let a = c.args in
    let l = c.loop-i in
    let i = l.invariant in
    let t = c.loop-i-test.true in
    let r = c.past_zone-i.result in
    let jumped = c.past_zone-i.ensures in
    let n = c.node_from-ancestor.ensures in
    let f = c.first_after-from.ensures.index in
    let next = run_placed a.ancestors.now a.descendants.now c.requires.0 l.i l.from i.1 t n i.2 i.3 c.first_after-from.ensures.aligned f in (
      i.0,
      jumped.placed,
      next.0,
      sweep_next a.ancestors.now a.descendants.now c.requires.0 (l.i / 4) (l.from / 4) _ _ (omega (arith, i.1)) n i.3 f (r / 4) (omega (arith, jumped.later, jumped.placed, i.1)),
      i.4,
      λ place s.
          let left = i.5 place s in (
            tells_later place a.ancestors.now (first_taken a.ancestors.now a.descendants.now c.requires.0).0 _ l.i r (omega (arith, jumped.later, jumped.placed, i.1)) left.0,
            ap (serve pair_words PAIR_WORDS l.out l.handed.count)
                (sym (jump_rest a.ancestors.now a.descendants.now c.requires.0 l.i (l.from / 4) _ _ (omega (arith, i.1)) n i.3 f _ _
                c.node_from-ancestor.ensures c.is_running.ensures c.if-is_running.false r jumped a.relation place)) ∙ left.1,
          ),
      i.6,
    )

pub returns : goal.returns
returns g c =
    let a = c.args in
    let l = c.loop-i in
    let i = l.invariant in
    λ place s.
    let none = sweep_end a.relation Ancestor place a.ancestors.now (nodes a.descendants.now) (l.i / 4) (omega (arith, i.1, c.loop-i-test.false)) in
    left_end pair_words PAIR_WORDS _ _ i.4 none (i.5 place s).1
