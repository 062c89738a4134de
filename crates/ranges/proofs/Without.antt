-- Why it holds: What is left of two accepted lists is accepted. The readings go with their samples.
-- A sample that is left out gives nothing, or isn't inside the zone.
-- What would break it: A missing reading taken for a number would be caught here.
use mathlib.Core.Path.{◌≡◌, refl, ap, sym, subst, ◌∙◌}
use mathlib.Core.Logic.{inl, inr}
use mathlib.Core.Bool.{Bool, true, false, not}
use mathlib.Core.List.Sublistᴰ
use mathlib.Core.List.{List, [], ◌∷◌, ◌++◌, map, flat_map}
use Prim.Native.Nat.{ℕ, ◌*◌}
use native.Mathlib.Omega.{arith}
use lib.Dec.{eqb}
use lib.ListN.{length}
use borrow.Author.Tests.{eqb-true, eq-eqb}
use Rattle.answers.specs.Output.{words_in}
use Rattle.answers.proofs.OutputLaws.{length_items}
use Rattle.laws.specs.Choose.{All, Part, keep}
use Rattle.laws.proofs.Choices.{all_map, keep_all_of}
use Rattle.laws.proofs.Parts.{kept_part, part_mapped}
use Rattle.laws.proofs.Tests.{either, never, not_none}
use Rattle.nodes.specs.declared.node.Node.{Node}
use Rattle.nodes.specs.Node.{insideb}
use Rattle.nodes.specs.Words.{NODE_WORDS, nodes, node_at, count, words_of}
use Rattle.nodes.proofs.WordLaws.{length_nodes}
use Rattle.lists.proofs.Leaving.{part_two_taken}
use Rattle.lists.proofs.Pairing.{two_taken_iff}
use Rattle.lists.proofs.Taken.{words_taken_iff}
use Rattle.readings.specs.Reading.{MISSING, decode}
use Rattle.readings.specs.Sample.{Sample, READING_WORDS, sampled, samples_in, pairedb, fault_in, faultyb, percent_in, in_zone, present}
use Rattle.readings.proofs.SampleLaws.{sampled_nodes}
use Rattle.ranges.specs.Demanded.{AcceptedRange, not_missing, sample_words, reading_words, GivesNone}
use Rattle.ranges.specs.Range.{zone_range, range_of}
use Rattle.ranges.proofs.Answered.{Passed, passed_answer, accepted_iff}

-- Samples written as words are read as the same samples.
samples_return : (ss : List Sample) → samples_in (sample_words ss) (reading_words ss) ≡ ss
unfolding sample_words reading_words sampled nodes words_in flat_map words_of
samples_return [] = refl
samples_return (s ∷ ss) = ap (λ ts. s ∷ ts) (samples_return ss)

nodes_return : (ss : List Sample) → nodes (sample_words ss) ≡ map (λ s. s.node) ss
unfolding sample_words nodes words_in flat_map words_of
nodes_return [] = refl
nodes_return (s ∷ ss) = ap (λ ns. s.node ∷ ns) (nodes_return ss)

samples_length : (ss : List Sample) → length (sample_words ss) ≡ NODE_WORDS * length ss
unfolding sample_words words_of
samples_length ss = length_items (λ s. words_of s.node) NODE_WORDS (λ s. refl) ss

readings_length : (ss : List Sample) → length (reading_words ss) ≡ READING_WORDS * length ss
unfolding reading_words
readings_length ss = length_items (λ s. s.kind ∷ s.bits ∷ []) READING_WORDS (λ s. refl) ss

written_paired : (ss : List Sample) → pairedb (sample_words ss) (reading_words ss) ≡ true
unfolding pairedb
written_paired ss =
    eq-eqb (length (reading_words ss)) (2 * count (sample_words ss)) (omega (arith, samples_length ss, readings_length ss))

paired_nodes : (samples readings : List ℕ) → pairedb samples readings ≡ true → map (λ s. s.node) (samples_in samples readings) ≡ nodes samples
unfolding pairedb
paired_nodes samples readings h =
    let e : length readings ≡ READING_WORDS * count samples = eqb-true _ _ h in
    sampled_nodes (nodes samples) readings (omega (arith, length_nodes samples))

-- What is left out gives nothing inside the zone.
abbrev Idle : (zone : Node) (test : Sample → Bool) → Sample → Type 0
Idle zone test s = test s ≡ false → insideb s.node zone ≡ true → GivesNone s

present_kept : (zone : Node) (test : Sample → Bool) (ss : List Sample) → All (Idle zone test) ss
    → present (in_zone zone (keep test ss)) ≡ present (in_zone zone ss)
unfolding present in_zone keep flat_map
present_kept zone test [] h = refl
present_kept zone test (s ∷ ss) h =
    let r = present_kept zone test ss h.1 in
    elim (either (test s)) [
      | inl t ↦ elim (either (insideb s.node zone)) [
        | inl i ↦ rw (t, i) (ap (λ ps. percent_in (decode s.kind s.bits) ++ ps) r)
        | inr i ↦ rw (t, i) r
      ]
      | inr t ↦ elim (either (insideb s.node zone)) [
        | inl i ↦ rw (t, i, h.0 t i) r
        | inr i ↦ rw (t, i) r
      ]
    ]

module _ (zones samples readings : List ℕ) (zone : ℕ) (test : Sample → Bool) where
  abbrev kept : List Sample
  kept = keep test (samples_in samples readings)

  kept_nodes : pairedb samples readings ≡ true → Part (nodes (sample_words kept)) (nodes samples)
  kept_nodes h =
      subst (Part (nodes (sample_words kept))) (paired_nodes samples readings h)
      (subst (λ ns. Part ns (map (λ s. s.node) (samples_in samples readings))) (sym (nodes_return kept))
      (part_mapped (λ s. s.node) (kept_part test (samples_in samples readings))))

  -- An accepted call is accepted with the samples that a test keeps,
  kept_passed : Passed zones samples readings zone → Passed zones (sample_words kept) (reading_words kept) zone
  kept_passed h =
      let whole = ((words_taken_iff zones).0 ((two_taken_iff zones samples).0 h.0).0).0 in (
        part_two_taken zones samples zones (sample_words kept) whole (Sublistᴰ.refl (nodes zones)) (omega (arith, samples_length kept))
            (kept_nodes h.1) h.0,
        written_paired kept,
        subst (All (λ s. faultyb s ≡ false)) (sym (samples_return kept))
            (keep_all_of (λ s. faultyb s ≡ false) test (samples_in samples readings) h.2),
        h.3,
      )

  -- and answers the same if the others are idle.
  pub without : AcceptedRange zones samples readings zone → All (Idle (node_at zones zone) test) (samples_in samples readings)
      → zone_range zones (sample_words kept) (reading_words kept) zone ≡ zone_range zones samples readings zone
  without a idle =
      let h = (accepted_iff zones samples readings zone).0 a in
      passed_answer zones (sample_words kept) (reading_words kept) zone (kept_passed h)
      ∙ ap (λ ss. range_of (present (in_zone (node_at zones zone) ss))) (samples_return kept)
      ∙ ap range_of (present_kept (node_at zones zone) test (samples_in samples readings) idle)
      ∙ sym (passed_answer zones samples readings zone h)

-- A reading that isn't faulty and is missing gives nothing.
missing_none : (bits : ℕ) → fault_in (decode MISSING bits) ≡ false → percent_in (decode MISSING bits) ≡ []
unfolding decode
missing_none bits f = elim (either (eqb bits 0)) [ inl h ↦ rw h refl | inr h ↦ absurd (never refl (rw h at f)) ]

missing_idle : (zone : Node) (s : Sample) → faultyb s ≡ false → Idle zone (λ t. not (eqb t.kind MISSING)) s
missing_idle zone s f t i =
    let e : s.kind ≡ MISSING = eqb-true _ _ (not_none (eqb s.kind MISSING) t) in
    subst (λ k. fault_in (decode k s.bits) ≡ false → percent_in (decode k s.bits) ≡ []) (sym e) (missing_none s.bits) f

module _ (zones samples readings : List ℕ) (zone : ℕ) where
  pub without_missing : AcceptedRange zones samples readings zone
      → let kept = not_missing (samples_in samples readings) in zone_range zones (sample_words kept) (reading_words kept) zone ≡ zone_range zones samples readings zone
  unfolding not_missing
  without_missing a =
      without zones samples readings zone (λ s. not (eqb s.kind MISSING)) a
      (all_map (missing_idle (node_at zones zone)) (samples_in samples readings) ((accepted_iff zones samples readings zone).0 a).2)
