-- Function: `in_percent` (src/reading.rt).
-- Why it holds: The cases of the match are those of the definition, and the literal by which grams
-- are divided is ten.
-- What would break it: Grams taken as they are, or divided by another number, would be caught at
-- the second return. A missing reading taken for a number would be caught at the third.
use mathlib.Core.Path.{sym, ap, ◌∙◌}
use lib.Ieee.{Float, binary32, div}
use Rattle.std.specs.Prelude.{Some}
use Rattle.readings.specs.Reading.{percent_of}
use Rattle.readings.proofs.FloatBits.{ten_bits}
use Rattle.readings.proofs.reading.in_percent.Goals as goal

pub returns-in-Percent : goal.returns-in-Percent
returns-in-Percent c = sym (ap percent_of c.in-Percent.is)

pub returns-in-Grams : goal.returns-in-Grams
returns-in-Grams c =
    ap (λ (ten : Float). Some (div binary32 c.in-Grams.grams ten)) ten_bits ∙ sym (ap percent_of c.in-Grams.is)
