-- Function: `start_of` (src/step.rt).
-- Why it holds: No list is passed yet, and the next body starts right after the contents.
-- What would break it: A walk that starts elsewhere, or as if a list were already passed, would be
-- caught at the return.
use mathlib.Core.Path.{◌≡◌, ap}
use Prim.Native.Nat.{ℕ}
use Rattle.std.specs.Prelude.{None}
use Rattle.contents.specs.Contents.{contents_end}
use Rattle.contents.specs.Passing.{contents_place, start_of}
use Rattle.contents.proofs.step.start_of.Goals as goal

starts : (lists end : ℕ) → end ≡ contents_end lists → contents_place None end ≡ start_of lists
unfolding start_of
starts lists end e = ap (contents_place None) e

pub returns : goal.returns
returns c = starts _ _ c.contents_end.ensures
