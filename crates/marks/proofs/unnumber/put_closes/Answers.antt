-- Function: `put_closes` (src/unnumber.rt).
-- Why it holds: The first `count` words are filled with closes, and the others are as they were.
-- What would break it: One close too few, or another word, would be caught at the return.
use mathlib.Core.Path.{◌≡◌, refl}
use mathlib.Core.List.{List, ◌++◌}
use Prim.Native.Nat.{ℕ, ◌≤◌}
use lib.ListN.{length, take, drop, replicate, length-replicate}
use Rattle.std.proofs.Common.{length-take-le}
use Rattle.answers.specs.Output.{written}
use Rattle.marks.specs.Mark.{CLOSE}
use Rattle.marks.proofs.unnumber.put_closes.Goals as goal

all_put : (count : ℕ) (out front : List ℕ) → count ≤ length out → front ≡ replicate (length (take count out)) CLOSE
    → front ++ drop count out ≡ written (replicate count CLOSE) out
unfolding written
all_put count out front h e = rw (e, length-take-le count out h, length-replicate count CLOSE) refl

pub returns : goal.returns
returns c = all_put _ _ _ c.requires (c.fill.ensures.after (λ y e. e))
