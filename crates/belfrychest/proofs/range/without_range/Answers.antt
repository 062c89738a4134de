-- Function: `without_range` (src/range.rt).
-- Why it holds: The literal zero is the number zero of the definition.
-- What would break it: A low or a high other than zero would be caught at the return.
use mathlib.Core.Path.{ap}
use lib.Ieee.{Float}
use Rattle.answers.specs.declared.verdict.Verdict.{Verdict}
use Rattle.readings.proofs.FloatBits.{zero_bits}
use Rattle.belfrychest.specs.declared.range.BelfryRange.{BelfryRange}
use Rattle.belfrychest.proofs.range.without_range.Goals as goal

abbrev empty : Verdict → Float → BelfryRange
empty verdict x = record { verdict = verdict; present = 0; low = x; high = x }

pub returns : goal.returns
returns c = ap (λ (x : Float). empty c.args.verdict x) zero_bits
