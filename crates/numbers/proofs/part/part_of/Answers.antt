-- Function: `part_of` (src/part.rt).
-- Why it holds: A start after the end leaves nothing, and a count that reaches beyond the end
-- leaves all from the start on. Otherwise the part is the definition's own. Each part is cut from
-- the bytes at the place that its bounds name.
-- What would break it: A part one byte off or one byte short, or an empty one at another place,
-- would be caught at its return.
use mathlib.Core.Path.{◌≡◌, sym, ap, ◌∙◌}
use mathlib.Core.List.{List, []}
use Prim.Native.Nat.{ℕ, ◌-◌, ◌≤◌, min}
use native.Mathlib.Omega.{arith}
use lib.ListN.{length, take, drop, length-drop, drop_of_length-le}
use lib.Seq.{take-nil}
use Rattle.numbers.specs.Part.{part_of}
use Rattle.std.proofs.lemmas.List.{take_min}
use Rattle.numbers.proofs.Places.{before_the_end, at_the_beginning}
use Rattle.numbers.proofs.part.part_of.Goals as goal

module _ (bs : List ℕ) (from count : ℕ) where
  beyond : length bs ≤ from → [] ≡ part_of bs from count
  unfolding part_of
  beyond h = sym (ap (take count) (drop_of_length-le bs {i = from} h) ∙ take-nil count)

  within : (n k : ℕ) → n ≡ min count (length bs - from) → k ≡ n → take k (drop from bs) ≡ part_of bs from count
  unfolding part_of
  within n k e q =
      ap (λ m. take m (drop from bs)) (q ∙ e ∙ ap (min count) (sym (length-drop from bs))) ∙ take_min count (drop from bs)

pub returns-then-bytes-from : goal.returns-then-bytes-from
returns-then-bytes-from c = record { contents = beyond _ _ _ (omega arith); place = at_the_beginning _ _ _ (omega arith) }

pub returns : goal.returns
returns c = record { contents = within _ _ _ _ _ c.min.ensures (omega arith); place = before_the_end _ _ _ _ (omega arith) (omega arith) }
