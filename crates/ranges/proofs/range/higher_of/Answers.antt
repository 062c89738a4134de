-- Function: `higher_of` (src/range.rt).
-- Why it holds: Each arm returns what the definition chooses by the test that led to it.
-- What would break it: The lower value, or the later of two equal ones, would be caught at its
-- return.
use mathlib.Core.Path.{sym, ap}
use mathlib.Core.Bool.{Bool, cond}
use Rattle.ranges.proofs.range.higher_of.Goals as goal

pub returns-then-high-percent : goal.returns-then-high-percent
returns-then-high-percent c = sym (ap (λ (t : Bool). cond t c.args.percent c.args.high) c.if-high-percent.true)

pub returns-else-high-percent : goal.returns-else-high-percent
returns-else-high-percent c = sym (ap (λ (t : Bool). cond t c.args.percent c.args.high) c.if-high-percent.false)
