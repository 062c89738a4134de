-- Why it holds: What is left of two accepted lists is accepted, and the words go with their
-- samples. A sample whose reading is missing is neither counted as present nor added.
-- What would break it: A missing word taken for a number would be caught here.
use mathlib.Core.Path.{◌≡◌, refl, ap, sym, subst, ◌∙◌}
use mathlib.Core.Logic.{inl, inr}
use mathlib.Core.Bool.{Bool, false}
use mathlib.Core.List.Sublistᴰ
use mathlib.Core.List.{List, [], ◌∷◌, map, flat_map}
use Prim.Native.Nat.{ℕ, ◌*◌, ◌<◌}
use native.Mathlib.Omega.{arith}
use lib.ListN.{length, length-map}
use Rattle.answers.specs.Output.{words_in}
use Rattle.answers.proofs.OutputLaws.{length_items}
use Rattle.laws.specs.Choose.{All, Part, keep}
use Rattle.laws.proofs.Choices.{all_mapped, keep_all_of}
use Rattle.laws.proofs.Parts.{kept_part, part_mapped}
use Rattle.laws.proofs.Tests.{either}
use Rattle.nodes.specs.declared.node.Node.{Node}
use Rattle.nodes.specs.Node.{insideb}
use Rattle.nodes.specs.Words.{NODE_WORDS, nodes, node_at, count, words_of}
use Rattle.nodes.proofs.WordLaws.{length_nodes}
use Rattle.lists.proofs.Leaving.{part_two_taken}
use Rattle.lists.proofs.Pairing.{two_taken_iff}
use Rattle.lists.proofs.Taken.{words_taken_iff}
use Rattle.sheets.specs.Demanded.{AcceptedSheet, subtotal_in, lab_words, hundredths_of}
use Rattle.sheets.specs.Hundredths.{faulty_wordb}
use Rattle.sheets.specs.Sheet.{LabSample, lab_samples, presentb, inside_zone, sum_of, subtotal_over, row_of, sheet_samples, sheet_output}
use Rattle.sheets.proofs.Answered.{Passed, accepted_iff}
use Rattle.sheets.proofs.LabSamples.{lab_nodes, lab_nodes_lem, labs_words}
use Rattle.sheets.proofs.Rows.{row_told}

-- Samples written as words are read as the same samples.
labs_return : (ss : List LabSample) → lab_samples (nodes (lab_words ss)) (hundredths_of ss) ≡ ss
unfolding lab_words hundredths_of lab_samples nodes words_in flat_map words_of
labs_return [] = refl
labs_return (s ∷ ss) = ap (λ ts. s ∷ ts) (labs_return ss)

nodes_return : (ss : List LabSample) → nodes (lab_words ss) ≡ lab_nodes ss
unfolding lab_words nodes words_in flat_map words_of
nodes_return [] = refl
nodes_return (s ∷ ss) = ap (λ ns. s.node ∷ ns) (nodes_return ss)

labs_length : (ss : List LabSample) → length (lab_words ss) ≡ NODE_WORDS * length ss
unfolding lab_words words_of
labs_length ss = length_items (λ s. words_of s.node) NODE_WORDS (λ s. refl) ss

-- Leaving out samples without a reading leaves those that have one.
present_left : (zone : Node) (chosen : LabSample → Bool) (ss : List LabSample) → All (λ s. chosen s ≡ false → presentb s ≡ false) ss
    → keep presentb (inside_zone zone (keep chosen ss)) ≡ keep presentb (inside_zone zone ss)
unfolding inside_zone keep
present_left zone chosen [] h = refl
present_left zone chosen (s ∷ ss) h =
    let r = present_left zone chosen ss h.1 in
    elim (either (chosen s)) [
      | inl c ↦ elim (either (insideb s.node zone)) [
        | inl i ↦ elim (either (presentb s)) [ inl p ↦ rw (c, i, p) (ap (λ ts. s ∷ ts) r) | inr p ↦ rw (c, i, p) r ]
        | inr i ↦ rw (c, i) r
      ]
      | inr c ↦ elim (either (insideb s.node zone)) [ inl i ↦ rw (c, i, h.0 c) r | inr i ↦ rw (c, i) r ]
    ]

module _ (zones samples hundredths out : List ℕ) (chosen : LabSample → Bool) where
  abbrev ss : List LabSample
  ss = sheet_samples samples hundredths

  abbrev kept : List LabSample
  kept = keep chosen ss

  kept_nodes : length hundredths ≡ count samples → Part (nodes (lab_words kept)) (nodes samples)
  kept_nodes e =
      subst (Part (nodes (lab_words kept))) (lab_nodes_lem (nodes samples) hundredths (omega (arith, length_nodes samples)))
      (subst (λ ns. Part ns (lab_nodes ss)) (sym (nodes_return kept)) (part_mapped (λ s. s.node) (kept_part chosen ss)))

  -- An accepted call is accepted with the samples that a test keeps,
  kept_passed : Passed zones samples hundredths out → Passed zones (lab_words kept) (hundredths_of kept) out
  unfolding hundredths_of
  kept_passed p =
      let whole = ((words_taken_iff zones).0 ((two_taken_iff zones samples).0 p.0).0).0 in
      let long = labs_length kept in (
        part_two_taken zones samples zones (lab_words kept) whole (Sublistᴰ.refl (nodes zones)) (omega arith) (kept_nodes p.1) p.0,
        omega (arith, length-map kept (λ s. s.word)),
        all_mapped (λ s. s.word) (λ w. faulty_wordb w ≡ false) kept
            (keep_all_of (λ s. faulty_wordb s.word ≡ false) chosen ss (labs_words (λ w. faulty_wordb w ≡ false) (nodes samples) hundredths p.2)),
        p.3,
      )

  module _ (accepted : AcceptedSheet zones samples hundredths out) where
    pub kept_accepted : AcceptedSheet zones (lab_words kept) (hundredths_of kept) out
    kept_accepted =
        (accepted_iff zones (lab_words kept) (hundredths_of kept) out).1 (kept_passed ((accepted_iff zones samples hundredths out).0 accepted))

    -- and where the others are missing, each row has as many present and the same sum.
    pub without_missing : All (λ s. chosen s ≡ false → presentb s ≡ false) ss → (i : ℕ) → i < count zones
        → let row = subtotal_in (sheet_output zones samples hundredths out) i in
        let left = subtotal_in (sheet_output zones (lab_words kept) (hundredths_of kept) out) i in
        (left.present ≡ row.present) × (left.sum ≡ row.sum)
    unfolding subtotal_over
    without_missing h i l =
        let zone = node_at zones i in
        let before = row_told zones samples hundredths out accepted i l in
        let after = row_told zones (lab_words kept) (hundredths_of kept) out kept_accepted i l ∙ ap (λ ts. row_of ts zone) (labs_return kept) in
        let same = present_left zone chosen ss h in (
          ap (λ t. t.present) after ∙ ap length same ∙ sym (ap (λ t. t.present) before),
          ap (λ t. t.sum) after ∙ ap (λ ts. sum_of (map (λ s. s.word) ts)) same ∙ sym (ap (λ t. t.sum) before),
        )
