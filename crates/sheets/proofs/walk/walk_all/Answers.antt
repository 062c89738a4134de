-- Function: `walk_all` (src/walk.rt).
-- Why it holds: Before each turn the rows of the zones passed are written, and no sample passed
-- stands after the zone that comes next. Each turn walks one outermost zone with all that is inside
-- it.
-- Measure: `count zones - zone`, the zones still to walk.
-- What would break it: A walk that began one level too deep, or samples left before a zone, would
-- be caught at the call.
use mathlib.Core.Path.{refl, subst, ◌∙◌}
use Prim.Native.Nat.{◌<◌, zero-le}
use native.Mathlib.Nat.{not-suc-le-zero}
use native.Mathlib.Omega.{arith}
use Rattle.nodes.specs.Words.{count}
use Rattle.sheets.specs.Private.Walk.{FirstAfter}
use Rattle.sheets.proofs.Limits.{sound_word, zones_ok}
use Rattle.sheets.proofs.RowPlaces.{rows_none, rows_join, rows_all}
use Rattle.sheets.proofs.Walking.{by_left}
use Rattle.sheets.proofs.walk.walk_all.Goals as goal

pub loop-zone-init : goal.loop-zone-init
loop-zone-init c =
    let a = c.args in
    let p = c.requires in (
      zero-le,
      zero-le,
      λ l k m. absurd (not-suc-le-zero m),
      rows_none a.zones.now a.samples.now a.hundredths.now a.out.now 0,
      refl,
    )

pub walk_zone-walked-requires : goal.walk_zone-walked-requires
walk_zone-walked-requires c =
    let l = c.loop-zone in
    let a = c.args in
    let p = c.requires in
    let h : l.zone < count a.zones.now = omega arith in
    record {
      lists = p.lists;
      measured = p.measured;
      room = omega (arith, p.room, l.invariant.4);
      there = h;
      started = subst (λ n. FirstAfter a.samples.now n c.pass_samples-outside.result.next) c.node_at.ensures c.pass_samples-outside.ensures.reached;
      deep = omega (arith, (sound_word a.zones.now (zones_ok a.zones.now a.samples.now p.lists) l.zone h).lowest);
    }

pub loop-zone-preserved : goal.loop-zone-preserved
loop-zone-preserved c =
    let l = c.loop-zone in
    let a = c.args in
    let p = c.requires in
    let walked = c.walk_zone-walked.ensures in (
      walked.below.end,
      walked.reached.end,
      by_left a.zones.now a.samples.now p.lists l.zone _ _ walked.below walked.reached,
      rows_join a.zones.now a.samples.now a.hundredths.now a.out.now p.room 0 l.zone _ zero-le
          (omega (arith, walked.below.later)) walked.below.end l.invariant.3 walked.output,
      c.walk_zone-walked.auto.out ∙ l.invariant.4,
    )

pub returns : goal.returns
returns c =
    let l = c.loop-zone in
    let a = c.args in
    let p = c.requires in
    l.invariant.3 ∙ rows_all a.zones.now a.samples.now a.hundredths.now a.out.now l.zone (omega arith)
