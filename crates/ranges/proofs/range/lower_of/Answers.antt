-- Function: `lower_of` (src/range.rt).
-- Why it holds: Each arm returns what the definition chooses by the test that led to it.
-- What would break it: The higher value, or the later of two equal ones, would be caught at its
-- return.
use mathlib.Core.Path.{sym, ap}
use mathlib.Core.Bool.{Bool, cond}
use Rattle.ranges.proofs.range.lower_of.Goals as goal

pub returns-then-percent-low : goal.returns-then-percent-low
returns-then-percent-low c = sym (ap (λ (t : Bool). cond t c.args.percent c.args.low) c.if-percent-low.true)

pub returns-else-percent-low : goal.returns-else-percent-low
returns-else-percent-low c = sym (ap (λ (t : Bool). cond t c.args.percent c.args.low) c.if-percent-low.false)
