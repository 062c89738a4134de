-- The demands on lab readings (docs/SCOPE.md, "Lab readings"). Each clause is a comment in words
-- and, below it, the theorem that says it. `zone_range` is what the contract of `zone_range`
-- promises, and `shown_range` what C gets of it. The other words of the theorems are in
-- crates/ranges/specs/Demanded.antt and crates/readings/specs/. A change that took a missing
-- reading for zero would be caught here.
use mathlib.Core.Path.{◌≡◌, refl}
use mathlib.Core.Logic.{◌↔◌}
use mathlib.Core.Bool.{true, false}
use mathlib.Core.List.{List}
use Prim.Native.Nat.{ℕ, ◌≤◌, ◌<◌}
use lib.Ieee.{binary32, to_bits, of_int, le}
use Rattle.std.specs.Prelude.{None, Some, Ok, Err}
use Rattle.answers.specs.Answer.{TAKEN, RAGGED, READING, ABSENT}
use Rattle.answers.specs.declared.verdict.Verdict.{Verdict}
use Rattle.answers.specs.Verdict.{ANCESTORS, verdict, taken}
use Rattle.laws.specs.Choose.{All, In}
use Rattle.nodes.specs.declared.node.Node.{Node}
use Rattle.nodes.specs.Node.{insideb}
use Rattle.nodes.specs.Words.{node_at, count}
use Rattle.lists.specs.Two.{check_two}
use Rattle.readings.specs.Reading.{float, MOST_PERCENT}
use Rattle.readings.specs.Refusal.{Unread}
use Rattle.readings.specs.Sample.{Sample, samples_in, pairedb, faultyb, in_zone}
use Rattle.readings.proofs.Refused.{faulty_iff}
use Rattle.ranges.specs.declared.range.Range.{Range}
use Rattle.ranges.specs.Demanded.{AcceptedRange, not_missing, sample_words, reading_words, GivesNone, Extreme, FirstFaulty}
use Rattle.ranges.specs.Range.{ZoneRange, below, above, zone_range}
use Rattle.ranges.proofs.Answered.{accepted_iff, refusal_not_taken, lists_told, ragged_iff, reading_iff, faulty_drawn, reading_named, absent_iff}
use Rattle.ranges.proofs.Found.{found_low, found_high, extreme_bounds, no_reading_iff, same_inside, without_outside}
use Rattle.ranges.proofs.Without.{without_missing}
use Rattle.belfrychest.specs.declared.range.BelfryRange.{BelfryRange}
use Rattle.belfrychest.specs.Shown.{shown_range}

-- Two words are a faulty reading exactly when one of these holds. The kind is none of the three.
-- The reading is missing, and its bits aren't 0. Or its value is infinite or a NaN, lies below
-- zero, or lies above the limit of its kind.
pub faulty_exactly_when : (s : Sample) → (faultyb s ≡ true) ↔ Unread s.kind s.bits
faulty_exactly_when s = faulty_iff s.kind s.bits

-- A call is lent zones, samples and readings, and given the index of a zone.
module _ (zones samples readings : List ℕ) (zone : ℕ) where
  abbrev answer : ZoneRange
  answer = zone_range zones samples readings zone

  -- Its samples with their readings, and the zone itself.
  abbrev ss : List Sample
  ss = samples_in samples readings

  abbrev asked : Node
  asked = node_at zones zone

  -- It is accepted exactly when the two lists are, there are as many readings as samples, no
  -- reading is faulty, and the zone is there.
  pub range_accepted_exactly_when : AcceptedRange zones samples readings zone ↔ (((check_two zones samples).answer ≡ TAKEN)
      × (pairedb samples readings ≡ true) × All (λ s. faultyb s ≡ false) ss × (zone < count zones))
  range_accepted_exactly_when = accepted_iff zones samples readings zone

  -- What the check of the two lists refuses is refused with its answer, whatever else is wrong.
  pub lists_come_first : ((check_two zones samples).answer ≡ TAKEN → ⊥) → answer ≡ Err (check_two zones samples)
  lists_come_first = lists_told zones samples readings zone

  -- Where the lists pass, RAGGED is answered exactly when the readings aren't as many as the
  -- samples.
  pub ragged_exactly_when : (check_two zones samples).answer ≡ TAKEN → (answer ≡ Err (verdict RAGGED ANCESTORS 0)) ↔ (pairedb samples readings ≡ false)
  ragged_exactly_when = ragged_iff zones samples readings zone

  -- Where there is a reading for each sample too, READING at the index i is answered exactly when
  -- the sample at i is the first whose reading is faulty.
  pub reading_exactly_when : (i : ℕ) → (answer ≡ Err (verdict READING ANCESTORS i))
      ↔ (((check_two zones samples).answer ≡ TAKEN) × (pairedb samples readings ≡ true) × FirstFaulty ss i)
  reading_exactly_when = reading_iff zones samples readings zone

  -- So a faulty reading of any sample, in the zone or not, draws READING at some index.
  pub a_faulty_reading_is_refused : (check_two zones samples).answer ≡ TAKEN → pairedb samples readings ≡ true → (s : Sample) → In s ss
      → faultyb s ≡ true → (i : ℕ) × (answer ≡ Err (verdict READING ANCESTORS i))
  a_faulty_reading_is_refused = faulty_drawn zones samples readings zone

  -- No other refusal has the answer READING.
  pub no_other_reading : (v : Verdict) → answer ≡ Err v → v.answer ≡ READING → v ≡ verdict READING ANCESTORS v.index
  no_other_reading = reading_named zones samples readings zone

  -- ABSENT is answered exactly when nothing else is wrong and no zone has the index.
  pub absent_exactly_when : (answer ≡ Err (verdict ABSENT ANCESTORS 0)) ↔ (((check_two zones samples).answer ≡ TAKEN)
      × (pairedb samples readings ≡ true) × All (λ s. faultyb s ≡ false) ss × (count zones ≤ zone))
  absent_exactly_when = absent_iff zones samples readings zone

  -- A refusal never has the answer TAKEN.
  pub refusal_is_not_taken : (v : Verdict) → answer ≡ Err v → v.answer ≡ TAKEN → ⊥
  refusal_is_not_taken = refusal_not_taken zones samples readings zone

  -- Where it is accepted:
  module _ (accepted : AcceptedRange zones samples readings zone) where
    -- A missing reading is never a number. Leave out every sample whose reading is missing, and
    -- that reading: the answer stays.
    pub missing_is_never_a_number : let kept = not_missing ss in zone_range zones (sample_words kept) (reading_words kept) zone ≡ answer
    missing_is_never_a_number = without_missing zones samples readings zone accepted

    -- That no reading counts is answered exactly when no sample inside the zone has one.
    pub no_reading_exactly_when : (answer ≡ Ok None) ↔ All (λ s. insideb s.node asked ≡ true → GivesNone s) ss
    no_reading_exactly_when = no_reading_iff zones samples readings zone accepted

    -- Other samples change nothing. Leave out all that aren't inside the zone: the answer stays.
    pub outside_changes_nothing : let kept = in_zone asked ss in zone_range zones (sample_words kept) (reading_words kept) zone ≡ answer
    outside_changes_nothing = without_outside zones samples readings zone accepted

  -- Where it answers a low and a high:
  module _ (range : Range) (found : answer ≡ Ok (Some range)) where
    -- The low comes from a sample inside the zone: it is that sample's reading in percent. No
    -- reading inside the zone lies below it, and none of an earlier sample equals it.
    pub low_is_the_first_lowest : Extreme below asked ss range.low
    low_is_the_first_lowest = found_low zones samples readings zone range found

    -- The high likewise, with none above it.
    pub high_is_the_first_highest : Extreme above asked ss range.high
    high_is_the_first_highest = found_high zones samples readings zone range found

    -- Both lie between 0 and 100.
    pub low_in_percent : (le (float 0) range.low ≡ true) × (le range.low MOST_PERCENT ≡ true)
    low_in_percent = extreme_bounds below asked ss range.low low_is_the_first_lowest

    pub high_in_percent : (le (float 0) range.high ≡ true) × (le range.high MOST_PERCENT ≡ true)
    high_in_percent = extreme_bounds above asked ss range.high high_is_the_first_highest

-- Two accepted calls answer the same if the samples inside their zones and the readings of these
-- are the same, whatever else their lists hold.
pub only_the_inside_counts : (zones samples readings : List ℕ) (zone : ℕ) (zones' samples' readings' : List ℕ) (zone' : ℕ)
    → AcceptedRange zones samples readings zone → AcceptedRange zones' samples' readings' zone'
    → in_zone (node_at zones zone) (samples_in samples readings) ≡ in_zone (node_at zones' zone') (samples_in samples' readings')
    → zone_range zones samples readings zone ≡ zone_range zones' samples' readings' zone'
only_the_inside_counts = same_inside

-- The C interface. No number reaches C: nothing is present, and the low and the high are zero in
-- all bits.
abbrev NoNumber : BelfryRange → Type 0
NoNumber r = (r.present ≡ 0) × (to_bits binary32 r.low ≡ 0) × (to_bits binary32 r.high ≡ 0)

module _ (zones samples readings : List ℕ) (zone : ℕ) where
  abbrev to_c : BelfryRange
  to_c = shown_range (zone_range zones samples readings zone)

  -- Where no reading is present, C gets no number,
  pub c_gets_no_number_of_none : zone_range zones samples readings zone ≡ Ok None → (to_c.verdict ≡ taken) × NoNumber to_c
  unfolding to_bits of_int
  c_gets_no_number_of_none h = rw h (refl, (refl, refl, refl))

  -- and none where the call is refused.
  pub c_gets_no_number_of_a_refusal : (v : Verdict) → zone_range zones samples readings zone ≡ Err v → (to_c.verdict ≡ v) × NoNumber to_c
  unfolding to_bits of_int
  c_gets_no_number_of_a_refusal v h = rw h (refl, (refl, refl, refl))

  -- A low and a high reach C as they are, and as present.
  pub c_gets_the_range : (range : Range) → zone_range zones samples readings zone ≡ Ok (Some range)
      → to_c ≡ record { verdict = taken; present = 1; low = range.low; high = range.high }
  c_gets_the_range range h = rw h refl
