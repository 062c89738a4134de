-- Function: `list_count` (src/opening.rt).
-- Why it holds: The number of lists is the first number in the bytes. `number_at` reads it there,
-- or 0 where there is none.
-- What would break it: A number read at another place would be caught at the return.
use mathlib.Core.Path.{◌≡◌}
use mathlib.Core.List.{List}
use Prim.Native.Nat.{ℕ}
use Rattle.numbers.specs.Little.{number_at}
use Rattle.contents.specs.Contents.{lists_in}
use Rattle.readers.proofs.opening.list_count.Goals as goal

first : (book : List ℕ) (n : ℕ) → n ≡ number_at book 0 → n ≡ lists_in book
unfolding lists_in
first book n e = e

pub returns : goal.returns
returns c = first _ _ c.number_at.ensures
