-- Function: `digit_count` (src/text.rt).
-- Why it holds: The digits counted and those of `rest` are together as many as the number's. A
-- hundredth has two digits fewer.
-- Measure: `rest`, the number whose digits are still to count.
-- What would break it: A digit counted twice would be caught at the next turn. One not counted
-- would be caught at the return.
use mathlib.Core.Path.{◌≡◌}
use Prim.Native.Nat.{◌+◌, ◌≤◌}
use lib.ListN.{length}
use Rattle.lines.specs.Line.{decimal}
use Rattle.lines.proofs.text.digit_count.Given as goal

abbrev pub invariant-loop-rest : goal.invariant-loop-rest
invariant-loop-rest l = (l.rest ≤ l.number) × (l.count + length (decimal l.rest) ≡ length (decimal l.number))

abbrev pub decreases-loop-rest : goal.decreases-loop-rest
decreases-loop-rest l = l.rest
