-- Function: `write_rows` (src/number.rt).
-- Why it holds: The walk back keeps the closes and has written the rows that begin after it. So at
-- the first mark the whole table is written.
-- What would break it: A walk that left out a mark, or began with too few rows, would be caught at
-- the loop or at its start.
use mathlib.Core.Path.{refl}
use native.Mathlib.Omega.{arith}
use lib.ListN.{replicate}
use Rattle.nodes.specs.Node.{MOST_LEVELS}
use Rattle.marks.proofs.MarkLaws.{check_read}
use Rattle.marks.proofs.Backward.{back_start, back_asks, back_on, back_end}
use Rattle.marks.proofs.number.write_rows.Goals as goal

pub overflow_cast-position : goal.overflow_cast-position
overflow_cast-position c = let l = check_read _ c.requires.0 in omega (arith, l.0)

pub overflow_add-position : goal.overflow_add-position
overflow_add-position c = let l = check_read _ c.requires.0 in omega (arith, l.0)

pub loop-before-init : goal.loop-before-init
loop-before-init c =
    let p = c.requires in
    back_start _ _ _ (check_read _ p.0).1 (replicate MOST_LEVELS 0) _ refl p.1

pub write_mark-place-requires : goal.write_mark-place-requires
write_mark-place-requires c =
    let b = c.loop-before.invariant in
    let p = c.requires in
    let asks = back_asks _ _ _ (check_read _ p.0).1 _ _ _ _ (omega arith) (omega arith) b in
    (asks.closes, asks.some, asks.low, omega (arith, asks.few, b.same, p.1, p.2))

pub loop-before-preserved : goal.loop-before-preserved
loop-before-preserved c =
    let b = c.loop-before.invariant in
    let p = c.requires in
    let e = c.write_mark-place.ensures in
    back_on _ _ _ (check_read _ p.0).1 _ _ _ (omega (arith, p.1, p.2)) _ _ (omega arith) (omega arith) (omega arith) b _ _ _ e.answer e.closes e.output

pub shape_of-out : goal.shape_of-out
shape_of-out c = c.loop-before.invariant.same

pub returns : goal.returns
returns c = back_end _ _ _ (check_read _ c.requires.0).1 _ _ _ _ (omega arith) c.loop-before.invariant
