-- Why it holds: An accepted call answers by the percentages that are present inside the zone. The
-- low and the high are the first that none is below, and the first that none is above.
-- What would break it: A low from a sample of another zone, or the later of two equal values, would
-- be caught here.
use mathlib.Core.Path.{◌≡◌, ap, sym, subst, ◌∙◌}
use mathlib.Core.Logic.{◌↔◌}
use mathlib.Core.Bool.{Bool, true, false}
use mathlib.Core.List.{List, [], ◌∷◌}
use Prim.Native.Nat.{ℕ}
use lib.Ieee.{Float, le, eq}
use Rattle.std.specs.Prelude.{None, Some, Ok}
use Rattle.laws.specs.Choose.{All}
use Rattle.laws.proofs.Choices.{all_of}
use Rattle.laws.proofs.Tests.{never, not_so}
use Rattle.nodes.specs.declared.node.Node.{Node}
use Rattle.nodes.specs.Node.{insideb}
use Rattle.nodes.specs.Words.{node_at}
use Rattle.readings.specs.Reading.{float, MOST_PERCENT}
use Rattle.readings.specs.Sample.{Sample, samples_in, in_zone, present}
use Rattle.readings.proofs.Values.{Within, percent_within, present_within, within_bounds, not_both_below, below_between, above_between, equal_neither}
use Rattle.ranges.specs.declared.range.Range.{Range}
use Rattle.ranges.specs.Demanded.{refusalb, AcceptedRange, GivesNone, Extreme, sample_words, reading_words}
use Rattle.ranges.specs.Range.{below, above, low_of, high_of, range_of, zone_range}
use Rattle.ranges.proofs.Answered.{accepted_answer}
use Rattle.ranges.proofs.Cases.{same_range, found_not_none, none_told}
use Rattle.ranges.proofs.Extremes.{extreme, none_iff}
use Rattle.ranges.proofs.Unbeaten.{Unbeaten, unbeaten_is}
use Rattle.ranges.proofs.Without.{without}

-- A value that lies beyond another isn't equal to it.
below_differs : (u q : Float) → below u q ≡ true → eq q u ≡ false
below_differs u q h = not_so (λ e. never h (equal_neither q u e).1)

above_differs : (u q : Float) → above u q ≡ true → eq q u ≡ false
above_differs u q h = not_so (λ e. never h (equal_neither q u e).0)

-- The low and the high of some percentages.
range_unbeaten : (ps : List Float) (range : Range) → All Within ps → range_of ps ≡ Ok (Some range)
    → Unbeaten below ps range.low × Unbeaten above ps range.high
unfolding range_of low_of high_of
range_unbeaten [] range w h = absurd (found_not_none (sym h))
range_unbeaten (p ∷ ps) range w h = (
  subst (λ (r : Range). Unbeaten below (p ∷ ps) r.low) (same_range h) (unbeaten_is below Within not_both_below below_between p ps w),
  subst (λ (r : Range). Unbeaten above (p ∷ ps) r.high) (same_range h)
      (unbeaten_is above Within (λ q r. not_both_below r q) above_between p ps w),
)

-- An extreme lies between 0 and 100.
pub extreme_bounds : (beyond : Float → Float → Bool) (zone : Node) (ss : List Sample) (p : Float) → Extreme beyond zone ss p
    → (le (float 0) p ≡ true) × (le p MOST_PERCENT ≡ true)
extreme_bounds beyond zone ss p e =
    within_bounds p (subst (All Within) e.gives (percent_within e.sample.kind e.sample.bits)).0

module _ (zones samples readings : List ℕ) (zone : ℕ) where
  abbrev ss : List Sample
  ss = samples_in samples readings

  abbrev within : Node
  within = node_at zones zone

  found_unbeaten : (range : Range) → zone_range zones samples readings zone ≡ Ok (Some range)
      → Unbeaten below (present (in_zone within ss)) range.low × Unbeaten above (present (in_zone within ss)) range.high
  found_unbeaten range h =
      range_unbeaten (present (in_zone within ss)) range (present_within (in_zone within ss))
      (sym (accepted_answer zones samples readings zone (ap refusalb h)) ∙ h)

  pub found_low : (range : Range) → zone_range zones samples readings zone ≡ Ok (Some range) → Extreme below within ss range.low
  found_low range h = extreme within below below_differs ss range.low (found_unbeaten range h).0

  pub found_high : (range : Range) → zone_range zones samples readings zone ≡ Ok (Some range) → Extreme above within ss range.high
  found_high range h = extreme within above above_differs ss range.high (found_unbeaten range h).1

  pub no_reading_iff : AcceptedRange zones samples readings zone → (zone_range zones samples readings zone ≡ Ok None)
      ↔ All (λ s. insideb s.node within ≡ true → GivesNone s) ss
  no_reading_iff a =
      let e = accepted_answer zones samples readings zone a in
      let ps = present (in_zone within ss) in (
        λ h. (none_iff within ss).0 ((none_told ps).0 (sym e ∙ h)),
        λ h. e ∙ (none_told ps).1 ((none_iff within ss).1 h),
      )

  -- The samples outside the zone may be left out.
  pub without_outside : AcceptedRange zones samples readings zone
      → zone_range zones (sample_words (in_zone within ss)) (reading_words (in_zone within ss)) zone ≡ zone_range zones samples readings zone
  unfolding in_zone
  without_outside a =
      without zones samples readings zone (λ s. insideb s.node within) a (all_of (λ s t i. absurd (never i t)) ss)

-- Two accepted calls with the same samples inside their zones answer the same.
pub same_inside : (zones samples readings : List ℕ) (zone : ℕ) (zones' samples' readings' : List ℕ) (zone' : ℕ)
    → AcceptedRange zones samples readings zone → AcceptedRange zones' samples' readings' zone'
    → in_zone (node_at zones zone) (samples_in samples readings) ≡ in_zone (node_at zones' zone') (samples_in samples' readings')
    → zone_range zones samples readings zone ≡ zone_range zones' samples' readings' zone'
same_inside zones samples readings zone zones' samples' readings' zone' a b e =
    accepted_answer zones samples readings zone a ∙ ap (λ ss. range_of (present ss)) e ∙ sym (accepted_answer zones' samples' readings' zone' b)
