-- Why it holds: An answer is a range, no reading or a refusal, and never two of them. What it holds
-- is read off its case.
-- What would break it: A range taken for a refusal, or no reading for a range, would be caught
-- here.
use mathlib.Core.Path.{◌≡◌, refl, sym, ap}
use mathlib.Core.Logic.{◌↔◌}
use mathlib.Core.Bool.{Bool, true, false}
use mathlib.Core.List.{List, [], ◌∷◌}
use lib.Ieee.{Float, nan}
use Rattle.std.specs.Prelude.{Option, None, Some, Result, Ok, Err, is_ok}
use Rattle.std.specs.Result.{result_unwrap_or}
use Rattle.answers.specs.declared.refusal.Fault.{Fault}
use Rattle.answers.specs.declared.verdict.Verdict.{Verdict}
use Rattle.answers.specs.Refusal.{verdict_of}
use Rattle.answers.specs.Verdict.{taken}
use Rattle.answers.proofs.RefusalLaws.{fault_only}
use Rattle.laws.proofs.Tests.{never}
use Rattle.ranges.specs.declared.range.Range.{Range}
use Rattle.ranges.specs.Demanded.{refusalb}
use Rattle.ranges.specs.Range.{ZoneRange, range_in, range_of}

-- Whether an answer has a low and a high, and what they are.
foundb : ZoneRange → Bool
foundb (Ok (Some range)) = true
foundb (Ok None) = false
foundb (Err refusal) = false

range_found : ZoneRange → Range
range_found (Ok (Some range)) = range
range_found (Ok None) = record { low = nan; high = nan }
range_found (Err refusal) = record { low = nan; high = nan }

pub same_range : {r s : Range} → ◌≡◌ {A = ZoneRange} (Ok (Some r)) (Ok (Some s)) → r ≡ s
unfolding range_found
same_range h = ap range_found h

pub found_not_none : {r : Range} → ◌≡◌ {A = ZoneRange} (Ok (Some r)) (Ok None) → ⊥
unfolding foundb
found_not_none h = never refl (ap foundb h)

-- An answer with a range, or with no reading, isn't a refusal.
pub no_refusal : (r : ZoneRange) (v : Verdict) → is_ok r ≡ true → r ≡ Err v → ⊥
no_refusal r v k e = never k (ap (λ k. is_ok k) e)

-- The verdict of a refusal.
refusal_in : ZoneRange → Verdict
refusal_in (Ok found) = taken
refusal_in (Err refusal) = refusal

pub same_refusal : {v w : Verdict} → ◌≡◌ {A = ZoneRange} (Err v) (Err w) → v ≡ w
unfolding refusal_in
same_refusal h = ap refusal_in h

-- The range of some percentages is no refusal.
pub found_accepted : (ps : List Float) → refusalb (range_of ps) ≡ false
unfolding range_of
found_accepted [] = refl
found_accepted (p ∷ ps) = refl

pub never_refused : (ps : List Float) {v : Verdict} → range_of ps ≡ Err v → ⊥
never_refused ps h = never (ap refusalb h) (found_accepted ps)

-- No percentage is present exactly when that is the answer.
pub none_told : (ps : List Float) → (range_of ps ≡ Ok None) ↔ (ps ≡ [])
unfolding range_of
none_told [] = (λ h. refl, λ h. refl)
none_told (p ∷ ps) = (λ h. absurd (found_not_none h), λ h. ap range_of h)

-- Such an answer tells what the call returned.
pub range_only : (r r' : Result (Option Range) Fault) → range_in r ≡ range_in r' → r ≡ r'
range_only (Ok x) (Ok y) q = ap (λ k. Ok k) (ap (λ (k : ZoneRange). result_unwrap_or k x) q)
range_only (Ok x) (Err f) q = absurd (no_refusal (Ok x) (verdict_of f) refl q)
range_only (Err f) (Ok y) q = absurd (no_refusal (Ok y) (verdict_of f) refl (sym q))
range_only (Err f) (Err f') q = ap (λ g. Err g) (fault_only f f' (same_refusal q))
