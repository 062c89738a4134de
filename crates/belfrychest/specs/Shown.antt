-- What C gets where its struct isn't the library's own: the place of the part at fault, and the
-- range of a zone.
use Rattle.std.specs.Prelude.{ℕ, ◌*◌, cond, List, Some, None, Ok, Err, eqb, length}
use Rattle.nodes.specs.Words.{NODE_WORDS}
use Rattle.answers.specs.declared.verdict.Verdict.{Verdict}
use Rattle.answers.specs.Verdict.{taken}
use Rattle.lists.specs.Two.{check_two}
use Rattle.readings.specs.Reading.{float}
use Rattle.ranges.specs.Range.{ZoneRange}
use Rattle.repairs.specs.Part.{faulty_part}
use Rattle.belfrychest.specs.declared.list.BelfryPart.{BelfryPart}
use Rattle.belfrychest.specs.declared.range.BelfryRange.{BelfryRange}

-- The part at the faulty node, as its place in the list that the verdict names. It is 0
-- and 0 where the part is empty.
unfoldable pub shown_part : List ℕ → List ℕ → BelfryPart
shown_part ancestors descendants =
    let v = check_two ancestors descendants in
    let words = length (faulty_part ancestors descendants) in
    record { verdict = v; from = cond (eqb words 0) 0 (NODE_WORDS * v.index); words = words }

-- An answer without a low and a high: nothing is present, and both are zero.
abbrev pub without_range : Verdict → BelfryRange
without_range v = record { verdict = v; present = 0; low = float 0; high = float 0 }

-- The range of a zone as C gets it: a low and a high, no present reading, or a refusal.
abbrev pub shown_range : ZoneRange → BelfryRange
shown_range (Ok (Some range)) = record { verdict = taken; present = 1; low = range.low; high = range.high }
shown_range (Ok None) = without_range taken
shown_range (Err refusal) = without_range refusal
