-- What a pass along the samples keeps, for the contracts of private functions.
use Rattle.std.specs.Prelude.{cond, List, Float, Option, None, Some, Err}
use Rattle.std.specs.Float.Ieee.{lt}
use Rattle.laws.specs.Choose.{any, first_at}
use Rattle.answers.specs.Answer.{READING}
use Rattle.answers.specs.Verdict.{ANCESTORS, verdict}
use Rattle.nodes.specs.declared.node.Node.{Node}
use Rattle.readings.specs.Sample.{Sample, faultyb, in_zone, present}
use Rattle.ranges.specs.declared.range.Range.{Range}
use Rattle.ranges.specs.Range.{ZoneRange, range_of}

-- The lower and the higher of two values; of equal ones the first.
abbrev pub lower : Float → Float → Float
lower low p = cond (lt p low) p low

abbrev pub higher : Float → Float → Float
higher high p = cond (lt high p) p high

-- A low and a high with one more value taken in. Where there was none before, it is both.
abbrev pub taken_in : Option Range → Float → Range
taken_in (Some range) p = record { low = lower range.low p; high = higher range.high p }
taken_in None p = record { low = p; high = p }

-- What a pass along all samples answers: the first faulty reading, or the range of those inside the
-- zone.
unfoldable pub passed : Node → List Sample → ZoneRange
passed zone ss = cond (any faultyb ss) (Err (verdict READING ANCESTORS (first_at faultyb ss))) (range_of (present (in_zone zone ss)))
