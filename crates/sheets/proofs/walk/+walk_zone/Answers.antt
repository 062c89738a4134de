-- Function: `walk_zone` (src/walk.rt), which calls itself.
-- Why it holds: Before each turn the zones and the samples passed are inside the zone, and the
-- subtotal is theirs. A turn takes the zone's own samples up to its next child, and then that
-- child with all that is inside it.
-- Measure: of the calls `depth`, the levels that the walk may still go down; of the loop
-- `count zones - next`, the zones still to look at.
-- What would break it: A child's subtotal left out or added twice, or a depth one too small, would
-- be caught at the next turn or at the call.
use Rattle.std.proofs.Common.{ℕ, refl, ap, subst, ◌∙◌, ◌+◌, arith}
use Rattle.sheets.specs.Private.Walk.{FirstAfter, end_text}
use Rattle.sheets.proofs.Limits.{row_stretch}
use Rattle.sheets.proofs.RowPlaces.{rows_none, rows_join, rows_before}
use Rattle.sheets.proofs.SampleLaws.{no_row, no_stretch, stretch_small, stretch_join}
use Rattle.sheets.proofs.Walking.{Child, walk_start, child_read, child_none, child_deep, walk_child}
use Rattle.sheets.proofs.walk.+walk_zone.Goals as goal
use Rattle.sheets.proofs.walk.+walk_zone.Goals.{In-loop-own}

-- Where the test of the loop passes, there is a child.
child_at : (t : ℕ) (c : In-loop-own t) → Child c.args.zones.now c.args.zone c.loop-own.next
child_at t c =
    let l = c.loop-own in
    let a = c.args in
    let p = c.requires in
    child_read a.zones.now a.samples.now p.lists a.zone a.sample p.there l.next l.place l.invariant.0 _ _
    c.node_at-around.ensures c.is_within.ensures c.loop-own-test.true

pub loop-own-init : goal.loop-own-init
loop-own-init t c =
    let a = c.args in
    let p = c.requires in
    let z = c.default-subtotal.ensures in (
      walk_start a.zones.now a.samples.now p.lists a.zone a.sample p.there p.started (a.zone + 1) refl,
      no_row _ z.0 z.1.0 z.1.1 ∙ no_stretch a.samples.now a.hundredths.now a.sample,
      rows_none a.zones.now a.samples.now a.hundredths.now a.out.now (a.zone + 1),
      refl,
    )

pub overflow_sub-depth : goal.overflow_sub-depth
overflow_sub-depth t c =
    let a = c.args in
    let p = c.requires in
    (child_deep a.zones.now a.samples.now p.lists a.zone _ a.depth p.there p.deep (child_at t (goal.at.overflow_sub-depth t c).In-loop-own)).0

pub walk_zone-child-requires : goal.walk_zone-child-requires
walk_zone-child-requires t c =
    let l = c.loop-own in
    let a = c.args in
    let p = c.requires in
    let child = child_at t (goal.at.walk_zone-child-requires t c).In-loop-own in
    let deep = child_deep a.zones.now a.samples.now p.lists a.zone l.next a.depth p.there p.deep child in (
      omega (arith, c.decreases, deep.0),
      record {
        lists = p.lists;
        measured = p.measured;
        room = omega (arith, p.room, l.invariant.3);
        there = child.there;
        started = subst (λ n. FirstAfter a.samples.now n c.pass_samples-own.result.next) c.node_at.ensures c.pass_samples-own.ensures.reached;
        deep = deep.1;
      },
    )

pub added-passed-requires : goal.added-passed-requires
added-passed-requires t c =
    let l = c.loop-own in
    let own = c.pass_samples-own.ensures in
    let a = c.args in
    let m = c.requires.measured in (
      stretch_small a.samples.now a.hundredths.now m a.sample l.place l.invariant.0.few l.invariant.1,
      stretch_small a.samples.now a.hundredths.now m l.place _ own.reached.end own.subtotal,
    )

pub added-subtotal-requires : goal.added-subtotal-requires
added-subtotal-requires t c =
    let l = c.loop-own in
    let own = c.pass_samples-own.ensures in
    let child = c.walk_zone-child.ensures in
    let a = c.args in
    let m = c.requires.measured in
    let passed = stretch_join a.samples.now a.hundredths.now m a.sample l.place _ l.invariant.0.from own.later own.reached.end l.invariant.1 own.subtotal c.added-passed.ensures in (
      stretch_small a.samples.now a.hundredths.now m a.sample _ own.reached.end passed,
      stretch_small a.samples.now a.hundredths.now m c.pass_samples-own.result.next _ child.reached.end child.subtotal,
    )

pub loop-own-preserved : goal.loop-own-preserved
loop-own-preserved t c =
    let l = c.loop-own in
    let w = l.invariant.0 in
    let own = c.pass_samples-own.ensures in
    let child = c.walk_zone-child.ensures in
    let a = c.args in
    let p = c.requires in
    let m = p.measured in
    let passed = stretch_join a.samples.now a.hundredths.now m a.sample l.place _ w.from own.later own.reached.end l.invariant.1 own.subtotal c.added-passed.ensures in (
      walk_child a.zones.now a.samples.now p.lists a.zone a.sample p.there l.next l.place w (child_at t (goal.at.loop-own-preserved t c).In-loop-own) _ _ _
          own.later child.below child.later child.reached,
      stretch_join a.samples.now a.hundredths.now m a.sample _ _ (omega (arith, w.from, own.later)) child.later child.reached.end passed child.subtotal c.added-subtotal.ensures,
      rows_join a.zones.now a.samples.now a.hundredths.now a.out.now p.room (a.zone + 1) l.next _ (omega (arith, w.later)) (omega (arith, child.below.later))
          child.below.end l.invariant.2 child.output,
      c.walk_zone-child.auto.out ∙ l.invariant.3,
    )

pub added-whole-requires : goal.added-whole-requires
added-whole-requires t c =
    let l = c.loop-own in
    let last = c.pass_samples-last.ensures in
    let a = c.args in
    let m = c.requires.measured in (
      stretch_small a.samples.now a.hundredths.now m a.sample l.place l.invariant.0.few l.invariant.1,
      stretch_small a.samples.now a.hundredths.now m l.place _ last.reached.end last.subtotal,
    )

pub returns : goal.returns
returns t c =
    let l = c.loop-own in
    let w = l.invariant.0 in
    let last = c.pass_samples-last.ensures in
    let a = c.args in
    let p = c.requires in
    let m = p.measured in
    let whole = stretch_join a.samples.now a.hundredths.now m a.sample l.place _ w.from last.later last.reached.end l.invariant.1 last.subtotal c.added-whole.ensures in
    let reached = subst (λ n. FirstAfter a.samples.now n c.pass_samples-last.result.next) (c.end_of.ensures ∙ ap end_text c.node_at-around.ensures) last.reached in
    record {
      below = child_none a.zones.now a.samples.now p.lists a.zone a.sample p.there l.next l.place w _ _ c.node_at-around.ensures c.is_within.ensures c.loop-own-test.false;
      later = omega (arith, w.from, last.later);
      reached = reached;
      subtotal = whole;
      output = rows_before a.zones.now a.samples.now a.hundredths.now a.out.now p.room a.zone l.next _ w.later w.end
          (whole ∙ row_stretch a.zones.now a.samples.now p.lists a.zone p.there a.hundredths.now m a.sample _ p.started reached (omega (arith, w.from, last.later)))
          l.invariant.2 c.put_subtotal.ensures;
    }
