-- Function: `put_field` (src/text.rt).
-- Why it holds: The byte is put right after the number's digits.
-- What would break it: A byte put one place off would be caught at the return.
use mathlib.Core.List.{[], ◌∷◌}
use Rattle.lines.proofs.Putting.{put_next}
use Rattle.lines.proofs.text.Writer.put_field.Goals as goal

pub returns : goal.returns
returns c = put_next c.put_decimal.ensures (c.args.after ∷ []) c.put_byte.ensures
