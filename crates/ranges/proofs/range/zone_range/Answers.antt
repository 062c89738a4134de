-- Function: `zone_range` (src/range.rt).
-- Why it holds: The checks come in the order of the definition. A pass that refuses has found a
-- faulty reading, and any other pass has found none, so only the zone's index is left to test.
-- What would break it: A check out of its turn, or left out, would be caught at the return that
-- follows it.
use native.Mathlib.Omega.{arith}
use mathlib.Core.Path.{◌≡◌, refl, sym, ap, ◌∙◌}
use mathlib.Core.Logic.{inl, inr}
use mathlib.Core.Bool.{true, false}
use mathlib.Core.List.{List}
use Prim.Native.Nat.{ℕ, ◌*◌, ◌≤◌, ◌<◌}
use lib.ListN.{length}
use borrow.Author.Tests.{eq-eqb, ne_eqb}
use Rattle.laws.specs.Choose.{any, first_at}
use Rattle.laws.proofs.Choices.{any_none}
use Rattle.laws.proofs.Tests.{either, not_so}
use Rattle.std.proofs.lemmas.Result.{err_from_is_err_and}
use Rattle.std.specs.Prelude.{Ok, Err}
use Rattle.answers.specs.Answer.{TAKEN, RAGGED, READING, ABSENT}
use Rattle.answers.specs.declared.verdict.Verdict.{Verdict}
use Rattle.answers.specs.Refusal.{verdict_of}
use Rattle.answers.specs.Verdict.{ANCESTORS, verdict, taken}
use Rattle.answers.proofs.RefusalLaws.{never_taken}
use Rattle.nodes.specs.declared.node.Node.{Node}
use Rattle.nodes.specs.Words.{node_at, count, MOST_NODES}
use Rattle.lists.specs.Two.{check_two}
use Rattle.lists.proofs.Pairing.{two_taken_iff}
use Rattle.lists.proofs.Taken.{whole_words, words_check}
use Rattle.readings.specs.Sample.{Sample, READING_WORDS, samples_in, pairedb, faultyb, in_zone, present}
use Rattle.ranges.specs.Private.Passing.{passed}
use Rattle.ranges.specs.Range.{ZoneRange, range_in, range_of, zone_range}
use Rattle.ranges.proofs.Answered.{passed_answer, lists_told, ragged_iff, reading_iff, absent_iff}
use Rattle.ranges.proofs.Cases.{no_refusal, never_refused}
use Rattle.ranges.proofs.Faults.{first_faulty}
use Rattle.ranges.proofs.range.zone_range.Goals as goal

-- What a pass answers where a reading is faulty, and where none is.
passed_faulty : (zone : Node) (ss : List Sample) → any faultyb ss ≡ true → passed zone ss ≡ Err (verdict READING ANCESTORS (first_at faultyb ss))
unfolding passed
passed_faulty zone ss h = rw h refl

passed_sound : (zone : Node) (ss : List Sample) → any faultyb ss ≡ false → passed zone ss ≡ range_of (present (in_zone zone ss))
unfolding passed
passed_sound zone ss h = rw h refl

module _ (zones samples readings : List ℕ) (zone : ℕ) where
  abbrev ss : List Sample
  ss = samples_in samples readings

  abbrev answer : ZoneRange
  answer = zone_range zones samples readings zone

  few : (check_two zones samples).answer ≡ TAKEN → count samples ≤ MOST_NODES
  few h = ((whole_words samples).0 ((words_check samples).0 ((two_taken_iff zones samples).0 h).1).0).1

  -- Each return, from the checks passed and the one that failed.
  at_lists : ((check_two zones samples).answer ≡ TAKEN → ⊥) → Err (check_two zones samples) ≡ answer
  at_lists h = sym (lists_told zones samples readings zone h)

  module _ (lists : (check_two zones samples).answer ≡ TAKEN) where
    at_pairing : (length readings ≡ READING_WORDS * count samples → ⊥) → Err (verdict RAGGED ANCESTORS 0) ≡ answer
    unfolding pairedb
    at_pairing h = sym ((ragged_iff zones samples readings zone lists).1 (ne_eqb _ _ h))

    module _ (equal : length readings ≡ READING_WORDS * count samples) where
      paired : pairedb samples readings ≡ true
      unfolding pairedb
      paired = eq-eqb _ _ equal

      at_reading : (r : ZoneRange) (v : Verdict) → r ≡ passed (node_at zones zone) ss → r ≡ Err v → r ≡ answer
      at_reading r v e q =
          elim (either (any faultyb ss)) [
            | inl t ↦ e ∙ passed_faulty (node_at zones zone) ss t ∙ sym ((reading_iff zones samples readings zone (first_at faultyb ss)).1 (lists, paired, first_faulty ss t))
            | inr f ↦ absurd (never_refused _ (sym (e ∙ passed_sound (node_at zones zone) ss f) ∙ q))
          ]

      -- A pass that isn't refused has found no faulty reading.
      module _ (r : ZoneRange) (e : r ≡ passed (node_at zones zone) ss) (k : (v : Verdict) → r ≡ Err v → ⊥) where
        none : any faultyb ss ≡ false
        none = not_so (λ t. k _ (e ∙ passed_faulty (node_at zones zone) ss t))

        at_zone : count zones ≤ zone → Err (verdict ABSENT ANCESTORS 0) ≡ answer
        at_zone h = sym ((absent_iff zones samples readings zone).1 (lists, paired, any_none faultyb ss none, h))

        at_end : zone < count zones → r ≡ answer
        at_end h =
            e ∙ passed_sound (node_at zones zone) ss none ∙ sym (passed_answer zones samples readings zone (lists, paired, any_none faultyb ss none, h))

-- The pass goes by the node at the zone's index.
placed : (zones samples readings : List ℕ) (zone : ℕ) (n : Node) → n ≡ node_at zones zone → (r : ZoneRange)
    → r ≡ passed n (samples_in samples readings) → r ≡ passed (node_at zones zone) (samples_in samples readings)
placed zones samples readings zone n e r p = p ∙ ap (λ (n : Node). passed n (samples_in samples readings)) e

-- Past the first check both lists are accepted.
lists_taken : (zones samples : List ℕ) → taken ≡ check_two zones samples → (check_two zones samples).answer ≡ TAKEN
lists_taken zones samples e = sym (ap (λ (v : Verdict). v.answer) e)

pub returns-in_err-check_two : goal.returns-in_err-check_two
returns-in_err-check_two c =
    let a = c.args in
    let e = err_from_is_err_and _ c.from_residual.ensures.1 in
    let q = c.in_err-check_two.ensures in
    ap range_in e.1 ∙ ap (λ f. Err (verdict_of f)) e.2 ∙ ap (λ v. Err v) q
    ∙ at_lists a.zones.now a.samples.now a.readings.now a.zone (λ t. never_taken _ (ap (λ (v : Verdict). v.answer) q ∙ t))

pub returns-then-readings-node_count : goal.returns-then-readings-node_count
returns-then-readings-node_count c =
    let a = c.args in
    ap (λ f. Err (verdict_of f)) c.into.ensures
    ∙ at_pairing a.zones.now a.samples.now a.readings.now a.zone (lists_taken _ _ c.in_ok-check_two.ensures) (λ e. omega arith)

pub pass_samples-requires : goal.pass_samples-requires
pass_samples-requires c =
    let a = c.args in
    (omega arith, few a.zones.now a.samples.now a.readings.now a.zone (lists_taken _ _ c.in_ok-check_two.ensures))

pub returns-in_err-found : goal.returns-in_err-found
returns-in_err-found c =
    let a = c.args in
    let e = err_from_is_err_and _ c.from_residual-in_err-found.ensures.1 in
    ap range_in e.1 ∙ ap (λ f. Err (verdict_of f)) e.2
    ∙ at_reading a.zones.now a.samples.now a.readings.now a.zone (lists_taken _ _ c.in_ok-check_two.ensures) (omega arith) _ _
    (placed _ _ _ _ _ c.node_at.ensures _ c.in_err-found.ensures) refl

pub returns-then-node_count-zone : goal.returns-then-node_count-zone
returns-then-node_count-zone c =
    let a = c.args in
    ap (λ f. Err (verdict_of f)) c.into-then-node_count-zone.ensures
    ∙ at_zone a.zones.now a.samples.now a.readings.now a.zone (lists_taken _ _ c.in_ok-check_two.ensures) (omega arith) (Ok c.in_ok-found.found)
    (placed _ _ _ _ _ c.node_at.ensures _ c.in_ok-found.ensures)
    (λ v. no_refusal (Ok c.in_ok-found.found) v refl) (omega arith)

pub returns : goal.returns
returns c =
    let a = c.args in
    at_end a.zones.now a.samples.now a.readings.now a.zone (lists_taken _ _ c.in_ok-check_two.ensures) (omega arith) (Ok c.in_ok-found.found)
    (placed _ _ _ _ _ c.node_at.ensures _ c.in_ok-found.ensures)
    (λ v. no_refusal (Ok c.in_ok-found.found) v refl) (omega arith)
