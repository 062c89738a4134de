-- docs/SCOPE.md, "Lab readings": the low and the high of a zone, and the order of the checks.
use Rattle.std.specs.Prelude.{ℕ, Bool, cond, not, List, [], ◌∷◌, leb, get_or, Float, Option, None, Some, Result, Ok, Err}
use Rattle.std.specs.Float.{nan}
use Rattle.std.specs.Float.Ieee.{lt}
use Rattle.laws.specs.Choose.{any, first_at}
use Rattle.answers.specs.Answer.{RAGGED, READING, ABSENT}
use Rattle.answers.specs.declared.refusal.Fault.{Fault}
use Rattle.answers.specs.declared.verdict.Verdict.{Verdict}
use Rattle.answers.specs.Refusal.{verdict_of}
use Rattle.answers.specs.Verdict.{ANCESTORS, verdict, refusedb}
use Rattle.nodes.specs.Words.{node_at, count}
use Rattle.lists.specs.Two.{check_two}
use Rattle.readings.specs.Sample.{samples_in, pairedb, faultyb, in_zone, present}
use Rattle.ranges.specs.declared.range.Range.{Range}

-- What the call answers: the zone's low and high, that no sample inside it has a reading, or why
-- the call is refused.
abbrev pub ZoneRange : Type 0
ZoneRange = Result (Option Range) Verdict

-- The answer of a call that returns a fault, or else what it found.
abbrev pub range_in : Result (Option Range) Fault → ZoneRange
range_in (Ok found) = Ok found
range_in (Err f) = Err (verdict_of f)

-- q lies below p, or above it.
abbrev pub below : Float → Float → Bool
below q p = lt q p

abbrev pub above : Float → Float → Bool
above q p = lt p q

-- The first value that no value beats; `nan` stands for none.
unfoldable pub unbeaten : (Float → Float → Bool) → List Float → Float
unbeaten beats ps = get_or ps (first_at (λ p. not (any (λ q. beats q p) ps)) ps) nan

-- The low: the first value that none is below.
unfoldable pub low_of : List Float → Float
low_of ps = unbeaten below ps

-- The high: the first value that none is above.
unfoldable pub high_of : List Float → Float
high_of ps = unbeaten above ps

-- The low and the high of some percentages; where there are none, no reading is present.
unfoldable pub range_of : List Float → ZoneRange
range_of [] = Ok None
range_of (p ∷ ps) = Ok (Some (record { low = low_of (p ∷ ps); high = high_of (p ∷ ps) }))

-- What the call answers. The checks of the two lists come first, then RAGGED for readings that
-- aren't as many as the samples. READING for the first faulty one follows, and ABSENT comes last.
unfoldable pub zone_range : List ℕ → List ℕ → List ℕ → ℕ → ZoneRange
zone_range zones samples readings zone =
    cond (refusedb (check_two zones samples)) (Err (check_two zones samples))
    (cond (not (pairedb samples readings)) (Err (verdict RAGGED ANCESTORS 0))
    (cond (any faultyb (samples_in samples readings)) (Err (verdict READING ANCESTORS (first_at faultyb (samples_in samples readings))))
    (cond (leb (count zones) zone) (Err (verdict ABSENT ANCESTORS 0))
    (range_of (present (in_zone (node_at zones zone) (samples_in samples readings)))))))
