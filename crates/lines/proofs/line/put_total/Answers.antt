-- Function: `put_total` (src/line.rt).
-- Why it holds: The word and its blank are six bytes, and the number's field after them has at most
-- twenty-one. So the line has room.
-- What would break it: Another word, or a line without its line feed, would be caught at the
-- return.
use mathlib.Core.Path.{◌≡◌, refl}
use mathlib.Core.List.{[], ◌∷◌, ◌++◌}
use Prim.Native.Nat.{ℕ, ◌<◌}
use native.Mathlib.Omega.{arith}
use lib.ListN.{length}
use Rattle.answers.specs.Answer.{padded, letter_at}
use Rattle.laws.specs.Choose.{keep}
use Rattle.lines.specs.declared.text.Writer.{Writer}
use Rattle.lines.specs.Line.{BLANK, LINE_FEED, decimal, word, unfilled, total_line}
use Rattle.lines.specs.Private.Puts.{Puts}
use Rattle.lines.proofs.Putting.{Begins, put_written}
use Rattle.lines.proofs.Fields.{field_64, put_field}
use Rattle.lines.proofs.line.put_total.Goals as goal

-- The word's bytes and the field make the line.
whole : {before one two : Writer} (n : ℕ) → n < 18446744073709551616 → before.at ≡ 0 → length before.text.now ≡ 32
    → Puts before (112 ∷ 97 ∷ 105 ∷ 114 ∷ 115 ∷ 32 ∷ []) one
    → Puts one (decimal n ++ LINE_FEED ∷ []) two
    → Begins before.text.now (total_line n) two.text.now two.at
unfolding total_line word unfilled keep padded letter_at
whole n h z l p q =
    put_written (total_line n) z (omega (arith, field_64 n LINE_FEED h)) (put_field (word "pairs") BLANK p n LINE_FEED q)

pub returns : goal.returns
returns c = whole c.args.count (omega arith) refl (omega arith) c.put_bytes.ensures c.put_field.ensures
