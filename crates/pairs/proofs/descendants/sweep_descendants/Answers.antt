-- Function: `sweep_descendants` (src/descendants.rt).
-- Why it holds: At each turn, handing out the groups of the descendants from `j` on gives what
-- handing out all that remains gives. This holds for every place for which the sweep begins as it
-- is told to. The stack stands for the ancestors passed.
-- Measure: `length descendants - j`, the words of the descendants still to come.
-- What would break it: A group that is lost, served twice or served after the room has run out
-- would be caught at a return or at the next turn.
use mathlib.Core.Path.{◌≡◌, refl, ap, ◌∙◌}
use mathlib.Core.Bool.{true}
use Prim.Native.Nat.{◌+◌, ◌*◌, ◌/◌}
use native.Mathlib.Omega.{arith}
use Rattle.nodes.specs.Words.{nodes}
use Rattle.paging.specs.Private.Serve.{serve}
use Rattle.tickets.specs.declared.ticket.Order.TheVariants.{Descendant}
use Rattle.tickets.specs.Listing.{leaders, followers}
use Rattle.tickets.specs.PairWords.{PAIR_WORDS, pair_words}
use Rattle.laws.proofs.Tests.{not_read, not_none}
use Rattle.paging.proofs.Serving.{left_end}
use Rattle.pairs.proofs.Descending.{ready_start, ready_next, taken_as, taken_ds, left_at, at_descendant, descend_on, descend_stop}
use Rattle.pairs.proofs.ListingGroups.{sweep_start, sweep_end}
use Rattle.pairs.proofs.SweepStart.{tells_first, tells_later}
use Rattle.pairs.proofs.descendants.sweep_descendants.Goals as goal

pub samples-init : goal.samples-init
unfolding leaders followers
samples-init g c =
    let a = c.args in
    let same : 4 * a.first / 4 ≡ a.first = omega arith in
    let r = ready_start a.ancestors.now a.descendants.now c.requires.0 a.first _ c.requires.1 in (
      refl,
      r,
      refl,
      λ place s. (
        tells_first place a.descendants.now (taken_ds a.ancestors.now a.descendants.now c.requires.0) a.first _ s,
        ap (serve pair_words PAIR_WORDS a.out.now 0)
            (sweep_start a.relation Descendant place (nodes a.ancestors.now) (nodes a.descendants.now) (4 * a.first / 4) (same ∙ s.0)),
      ),
    )

pub node_from-descendant-requires : goal.node_from-descendant-requires
node_from-descendant-requires g c = (c.samples.invariant.1.at, c.samples-test.true)

pub still_open-left-requires : goal.still_open-left-requires
still_open-left-requires g c = (c.samples.invariant.1.stands c.samples-test.true).used_in

pub open_before-opened-requires : goal.open_before-opened-requires
open_before-opened-requires g c =
    let a = c.args in
    let l = c.samples in
    let s = c.still_open-left.ensures in
    let here = left_at a.ancestors.now a.descendants.now c.requires.0 l.j c.samples-test.true _
    c.node_from-descendant.ensures _ _ _ _ l.invariant.1 s.fits s.left in
    (taken_as a.ancestors.now a.descendants.now c.requires.0, here.0, here.1)

pub hand_descendant-handed-requires : goal.hand_descendant-handed-requires
hand_descendant-handed-requires g c =
    let a = c.args in
    let l = c.samples in
    let o = c.open_before-opened.ensures in
    let test = c.samples-test.true in
    let t = at_descendant a.ancestors.now a.descendants.now c.requires.0 l.j test _
    c.node_from-descendant.ensures _ _ _ o.opening o.all_open o.rest in
    (l.invariant.1.at, test, t.opening.used_in, t.opening.held.stands.chain, t.upon)

pub returns-then-not-handed : goal.returns-then-not-handed
returns-then-not-handed g c =
    let a = c.args in
    let l = c.samples in
    let test = c.samples-test.true in
    let o = c.open_before-opened.ensures in
    let t = at_descendant a.ancestors.now a.descendants.now c.requires.0 l.j test _
    c.node_from-descendant.ensures _ _ _ o.opening o.all_open o.rest in
    λ place s.
    let left = l.invariant.3 place s in
    descend_stop a.ancestors.now a.descendants.now c.requires.0 l.j test _ _ _ t a.relation place _ left.0 _ _
    c.hand_descendant-handed.ensures (not_read _ c.if-not-handed.true) left.1

pub overflow_add-j : goal.overflow_add-j
overflow_add-j g c =
    let t = c.samples-test.true in
    let fits = c.well_formed in
    omega arith

pub samples-preserved : goal.samples-preserved
samples-preserved g c =
    let a = c.args in
    let l = c.samples in
    let test = c.samples-test.true in
    let o = c.open_before-opened.ensures in
    let t = at_descendant a.ancestors.now a.descendants.now c.requires.0 l.j test _
    c.node_from-descendant.ensures _ _ _ o.opening o.all_open o.rest in
    let done : c.hand_descendant-handed.result.done ≡ true = not_none _ c.if-not-handed.false in (
      omega arith,
      ready_next a.ancestors.now a.descendants.now c.requires.0 l.j test _ _ _ t l.invariant.1.at,
      done,
      λ place s.
          let left = l.invariant.3 place s in (
            tells_later place a.descendants.now (taken_ds a.ancestors.now a.descendants.now c.requires.0) _ l.j (l.j + 4) (omega arith) left.0,
            descend_on a.ancestors.now a.descendants.now c.requires.0 l.j test _ _ _ t a.relation place _ left.0 _ _
                c.hand_descendant-handed.ensures done left.1,
          ),
    )

pub returns : goal.returns
returns g c =
    let a = c.args in
    let l = c.samples in
    let at = l.invariant.1.at in
    λ place s.
    let none = sweep_end a.relation Descendant place a.descendants.now (nodes a.ancestors.now) (l.j / 4) (omega arith) in
    left_end pair_words PAIR_WORDS _ _ l.invariant.2 none (l.invariant.3 place s).1
