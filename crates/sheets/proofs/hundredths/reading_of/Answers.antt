-- Function: `reading_of` (src/hundredths.rt).
-- Why it holds: The one comparison is that of `missingb`.
-- What would break it: Another word taken for missing would be caught at the returns.
use borrow.Author.Tests.{eq-eqb, ne_eqb}
use Rattle.sheets.specs.Hundredths.{NO_HUNDREDTHS, missingb}
use Rattle.sheets.proofs.hundredths.reading_of.Goals as goal

pub returns-then-word-eq-NO_HUNDREDTHS : goal.returns-then-word-eq-NO_HUNDREDTHS
unfolding missingb
returns-then-word-eq-NO_HUNDREDTHS c = rw (eq-eqb _ NO_HUNDREDTHS c.if-word-eq-NO_HUNDREDTHS.true)

pub returns : goal.returns
unfolding missingb
returns c = rw (ne_eqb _ NO_HUNDREDTHS c.if-word-eq-NO_HUNDREDTHS.false)
