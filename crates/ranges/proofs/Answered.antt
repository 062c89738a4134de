-- Why it holds: The call goes from one test to the next while nothing is wrong. So an answer that
-- isn't a refusal means that every test has passed, and a refusal names the first that hasn't.
-- What would break it: A test left out, or one tried out of its turn, would be caught here.
use mathlib.Core.Path.{◌≡◌, refl, ap, sym, subst, ◌∙◌}
use mathlib.Core.Logic.{◌↔◌, inl, inr}
use mathlib.Core.Bool.{true, false}
use mathlib.Core.List.{List}
use Prim.Native.Nat.{ℕ, ◌≤◌, ◌<◌}
use native.Mathlib.Omega.{arith}
use lib.Dec.{leb}
use borrow.Author.Tests.{leb-true, leb-false, lt-leb, le-leb}
use Rattle.std.specs.Prelude.{Err}
use Rattle.answers.specs.Answer.{TAKEN, RAGGED, ABSENT, READING}
use Rattle.answers.specs.declared.verdict.Verdict.{Verdict}
use Rattle.answers.specs.Verdict.{ANCESTORS, verdict, refusedb}
use Rattle.answers.proofs.VerdictLaws.{refuses, accepts, not_taken, is_taken}
use Rattle.laws.specs.Choose.{All, In, any, first_at}
use Rattle.laws.proofs.Choices.{all_in, any_none, none_any}
use Rattle.laws.proofs.Tests.{either, never, so}
use Rattle.nodes.specs.Words.{node_at, count}
use Rattle.lists.specs.Two.{check_two}
use Rattle.lists.proofs.Drawn.{two_draws}
use Rattle.readings.specs.Sample.{Sample, samples_in, pairedb, faultyb, in_zone, present}
use Rattle.ranges.specs.Demanded.{AcceptedRange, FirstFaulty}
use Rattle.ranges.specs.Range.{range_of, zone_range}
use Rattle.ranges.proofs.Cases.{same_refusal, found_accepted, never_refused}
use Rattle.ranges.proofs.Faults.{faulty_first, first_faulty}

module _ (zones samples readings : List ℕ) (zone : ℕ) where
  -- All four tests have passed.
  abbrev pub Passed : Type 0
  Passed = ((check_two zones samples).answer ≡ TAKEN) × (pairedb samples readings ≡ true)
      × All (λ s. faultyb s ≡ false) (samples_in samples readings) × (zone < count zones)

  pub passed_answer : Passed → zone_range zones samples readings zone ≡ range_of (present (in_zone (node_at zones zone) (samples_in samples readings)))
  unfolding zone_range
  passed_answer h =
      rw (
        accepts (check_two zones samples) h.0,
        h.1,
        none_any faultyb (samples_in samples readings) h.2,
        lt-leb (count zones) zone h.3,
      )

  -- A call is accepted exactly when it has passed them.
  pub accepted_iff : AcceptedRange zones samples readings zone ↔ Passed
  unfolding zone_range
  accepted_iff = (
    λ a. elim (either (refusedb (check_two zones samples))) [
      | inl c ↦ absurd (never refl (rw c at a))
      | inr c ↦ elim (either (pairedb samples readings)) [
        | inr p ↦ absurd (never refl (rw (c, p) at a))
        | inl p ↦ elim (either (any faultyb (samples_in samples readings))) [
          | inl f ↦ absurd (never refl (rw (c, p, f) at a))
          | inr f ↦ elim (either (leb (count zones) zone)) [
            | inl z ↦ absurd (never refl (rw (c, p, f, z) at a))
            | inr z ↦ (
              is_taken (check_two zones samples) c,
              p,
              any_none faultyb (samples_in samples readings) f,
              leb-false (count zones) zone z,
            )
          ]
        ]
      ]
    ],
    λ h. rw (passed_answer h) (found_accepted _),
  )

  pub accepted_answer : AcceptedRange zones samples readings zone
      → zone_range zones samples readings zone ≡ range_of (present (in_zone (node_at zones zone) (samples_in samples readings)))
  accepted_answer a = passed_answer (accepted_iff.0 a)

  -- What refuses a call, one case for each test.
  data Refusal (v : Verdict) : Type 0 where
    by_lists : ((check_two zones samples).answer ≡ TAKEN → ⊥) → check_two zones samples ≡ v → Refusal v
    by_count : pairedb samples readings ≡ false → verdict RAGGED ANCESTORS 0 ≡ v → Refusal v
    by_reading : (check_two zones samples).answer ≡ TAKEN → pairedb samples readings ≡ true → any faultyb (samples_in samples readings) ≡ true
        → verdict READING ANCESTORS (first_at faultyb (samples_in samples readings)) ≡ v → Refusal v
    by_zone : (check_two zones samples).answer ≡ TAKEN → pairedb samples readings ≡ true → All (λ s. faultyb s ≡ false) (samples_in samples readings)
        → count zones ≤ zone → verdict ABSENT ANCESTORS 0 ≡ v → Refusal v

  refused_by : (v : Verdict) → zone_range zones samples readings zone ≡ Err v → Refusal v
  unfolding zone_range
  refused_by v h =
      elim (either (refusedb (check_two zones samples))) [
        | inl c ↦ by_lists (not_taken (check_two zones samples) c) (same_refusal (rw c at h))
        | inr c ↦ elim (either (pairedb samples readings)) [
          | inr p ↦ by_count p (same_refusal (rw (c, p) at h))
          | inl p ↦ elim (either (any faultyb (samples_in samples readings))) [
            | inl f ↦ by_reading (is_taken (check_two zones samples) c) p f (same_refusal (rw (c, p, f) at h))
            | inr f ↦ elim (either (leb (count zones) zone)) [
              | inl z ↦ by_zone (is_taken (check_two zones samples) c) p (any_none faultyb (samples_in samples readings) f) (leb-true (count zones) zone z)
                  (same_refusal (rw (c, p, f, z) at h))
              | inr z ↦ absurd (never_refused _ (rw (c, p, f, z) at h))
            ]
          ]
        ]
      ]

  -- No refusal has the answer TAKEN.
  pub refusal_not_taken : (v : Verdict) → zone_range zones samples readings zone ≡ Err v → v.answer ≡ TAKEN → ⊥
  refusal_not_taken v h t =
      elim (refused_by v h) [
        | by_lists n e ↦ n (ap (λ w. w.answer) e ∙ t)
        | by_count p e ↦ let a = ap (λ w. w.answer) e in omega (arith, a, t)
        | by_reading c p f e ↦ let a = ap (λ w. w.answer) e in omega (arith, a, t)
        | by_zone c p f z e ↦ let a = ap (λ w. w.answer) e in omega (arith, a, t)
      ]

  -- A fault of the lists is the answer, before all others.
  pub lists_told : ((check_two zones samples).answer ≡ TAKEN → ⊥) → zone_range zones samples readings zone ≡ Err (check_two zones samples)
  unfolding zone_range
  lists_told h = rw (refuses (check_two zones samples) h)

  -- Past it, RAGGED is answered where the readings aren't as many as the samples.
  pub ragged_iff : (check_two zones samples).answer ≡ TAKEN
      → (zone_range zones samples readings zone ≡ Err (verdict RAGGED ANCESTORS 0)) ↔ (pairedb samples readings ≡ false)
  unfolding zone_range
  ragged_iff t = (
    λ h. elim (refused_by (verdict RAGGED ANCESTORS 0) h) [
      | by_lists n e ↦ absurd (n t)
      | by_count p e ↦ p
      | by_reading c p f e ↦ let a = ap (λ w. w.answer) e in absurd (omega (arith, a))
      | by_zone c p f z e ↦ let a = ap (λ w. w.answer) e in absurd (omega (arith, a))
    ],
    λ p. rw (accepts (check_two zones samples) t, p),
  )

  -- ABSENT is answered past all other tests, where no zone has the index.
  pub absent_iff : (zone_range zones samples readings zone ≡ Err (verdict ABSENT ANCESTORS 0)) ↔ (((check_two zones samples).answer ≡ TAKEN)
      × (pairedb samples readings ≡ true) × All (λ s. faultyb s ≡ false) (samples_in samples readings) × (count zones ≤ zone))
  unfolding zone_range
  absent_iff = (
    λ h. elim (refused_by (verdict ABSENT ANCESTORS 0) h) [
      | by_lists n e ↦ let a = ap (λ w. w.answer) e in absurd (omega (arith, a, two_draws zones samples))
      | by_count p e ↦ let a = ap (λ w. w.answer) e in absurd (omega (arith, a))
      | by_reading c p f e ↦ let a = ap (λ w. w.answer) e in absurd (omega (arith, a))
      | by_zone c p f z e ↦ (c, p, f, z)
    ],
    λ h. rw (
      accepts (check_two zones samples) h.0,
      h.1,
      none_any faultyb (samples_in samples readings) h.2,
      le-leb (count zones) zone h.3,
    ),
  )

  -- READING is answered past the first two tests, at the first faulty sample;
  reading_told : (v : Verdict) → zone_range zones samples readings zone ≡ Err v → v.answer ≡ READING
      → (verdict READING ANCESTORS v.index ≡ v) × ((check_two zones samples).answer ≡ TAKEN) × (pairedb samples readings ≡ true)
      × FirstFaulty (samples_in samples readings) v.index
  reading_told v h r =
      elim (refused_by v h) [
        | by_lists n e ↦ let a = ap (λ w. w.answer) e in absurd (omega (arith, a, r, two_draws zones samples))
        | by_count p e ↦ let a = ap (λ w. w.answer) e in absurd (omega (arith, a, r))
        | by_reading c p f e ↦ let i = ap (λ w. w.index) e in
            (ap (verdict READING ANCESTORS) (sym i) ∙ e, c, p, subst (FirstFaulty (samples_in samples readings)) i (first_faulty (samples_in samples readings) f))
        | by_zone c p f z e ↦ let a = ap (λ w. w.answer) e in absurd (omega (arith, a, r))
      ]

  pub reading_iff : (i : ℕ) → (zone_range zones samples readings zone ≡ Err (verdict READING ANCESTORS i))
      ↔ (((check_two zones samples).answer ≡ TAKEN) × (pairedb samples readings ≡ true) × FirstFaulty (samples_in samples readings) i)
  unfolding zone_range
  reading_iff i = (
    λ h. let t = reading_told (verdict READING ANCESTORS i) h refl in (t.1, t.2, t.3),
    λ h. let f = faulty_first (samples_in samples readings) h.2 in
        rw (accepts (check_two zones samples) h.0, h.1, f.0, f.1),
  )

  -- A faulty reading anywhere draws it,
  pub faulty_drawn : (check_two zones samples).answer ≡ TAKEN → pairedb samples readings ≡ true → (s : Sample) → In s (samples_in samples readings)
      → faultyb s ≡ true → (i : ℕ) × (zone_range zones samples readings zone ≡ Err (verdict READING ANCESTORS i))
  faulty_drawn t p s m f =
      let ss = samples_in samples readings in
      let some = so (λ none. never f (all_in (λ s. faultyb s ≡ false) ss (any_none faultyb ss none) m)) in
      (first_at faultyb ss, (reading_iff (first_at faultyb ss)).1 (t, p, first_faulty ss some))

  -- and no other refusal has that answer.
  pub reading_named : (v : Verdict) → zone_range zones samples readings zone ≡ Err v → v.answer ≡ READING
      → v ≡ verdict READING ANCESTORS v.index
  reading_named v h r = sym (reading_told v h r).0
