-- Function: `keep_close` (src/back.rt).
-- Why it holds: The close is stored after those of the elements around it, and one element more is
-- open.
-- What would break it: A close stored at another place, or a depth left as it was, would be caught
-- at the return.
use mathlib.Core.Path.{refl}
use Rattle.marks.specs.Private.Walk.{open_before, before_mark, closes_before}
use Rattle.marks.proofs.back.keep_close.Goals as goal

pub returns : goal.returns
unfolding before_mark open_before closes_before
returns c = record { answer = refl; closes = refl }
