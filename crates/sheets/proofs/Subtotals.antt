-- Why it holds: Each column is a length or a sum, and those of two parts add up to those of the
-- whole. A present word is at most 10,000, so the sum is at most that much a sample.
-- What would break it: A column that didn't add up over parts, or a faulty word among those summed,
-- would be caught here.
use mathlib.Core.Path.{◌≡◌, refl, ap, ◌∙◌}
use mathlib.Core.Logic.{inl, inr}
use mathlib.Core.Bool.{false}
use mathlib.Core.List.{List, [], ◌∷◌, ◌++◌, map, map-append}
use Prim.Native.Nat.{ℕ, ◌+◌, ◌*◌, ◌≤◌}
use native.Mathlib.Omega.{arith}
use lib.ListN.{length, length-append}
use Rattle.laws.specs.Choose.{All, keep}
use Rattle.laws.proofs.Choices.{keep_append, keep_fewer}
use Rattle.laws.proofs.Tests.{either}
use Rattle.nodes.specs.Words.{MOST_NODES}
use Rattle.sheets.specs.declared.subtotal.Subtotal.{Subtotal}
use Rattle.sheets.specs.Hundredths.{MOST_HUNDREDTHS, missingb, faulty_wordb}
use Rattle.sheets.specs.Private.Walk.{SmallSubtotal, of_word}
use Rattle.sheets.specs.Sheet.{LabSample, presentb, sum_of, plus, subtotal_over}
use Rattle.sheets.proofs.FaultyWords.{hundredths_few}

-- The present samples' words.
abbrev present_words : List LabSample → List ℕ
present_words ss = map (λ s. s.word) (keep presentb ss)

sums_append : (ms ns : List ℕ) → sum_of (ms ++ ns) ≡ sum_of ms + sum_of ns
unfolding sum_of
sums_append [] ns = omega arith
sums_append (m ∷ ms) ns = omega (arith, sums_append ms ns)

-- Subtotals that are equal column by column are equal.
pub columns : {t u : Subtotal} → t.samples ≡ u.samples → t.present ≡ u.present → t.sum ≡ u.sum → t ≡ u
columns a b c = λ i. record { samples = a i; present = b i; sum = c i }

-- The subtotal of two parts is the sum of theirs.
pub over_append : (xs ys : List LabSample) → subtotal_over (xs ++ ys) ≡ plus (subtotal_over xs) (subtotal_over ys)
unfolding subtotal_over
over_append xs ys =
    columns
    (length-append xs ys)
    (ap length (keep_append presentb xs ys) ∙ length-append (keep presentb xs) (keep presentb ys))
    (ap (λ ss. sum_of (map (λ s. s.word) ss)) (keep_append presentb xs ys) ∙ ap sum_of (map-append (λ s. s.word) (keep presentb xs) (keep presentb ys))
    ∙ sums_append (present_words xs) (present_words ys))

-- That of one sample is told by its word.
pub over_one : (s : LabSample) → subtotal_over (s ∷ []) ≡ of_word s.word
unfolding subtotal_over keep sum_of
over_one s =
    elim (either (missingb s.word)) [
      | inl h ↦ rw h refl
      | inr h ↦ rw h (columns refl refl (omega arith))
    ]

-- The sum is at most 10,000 a sample.
pub sum_bound : (ss : List LabSample) → All (λ s. faulty_wordb s.word ≡ false) ss → (subtotal_over ss).sum ≤ MOST_HUNDREDTHS * length ss
unfolding subtotal_over keep sum_of
sum_bound [] h = omega arith
sum_bound (s ∷ ss) h =
    elim (either (missingb s.word)) [
      | inl m ↦ rw m (omega (arith, sum_bound ss h.1))
      | inr m ↦ rw m (omega (arith, sum_bound ss h.1, hundredths_few s.word h.0 m))
    ]

-- So the columns of at most 4,096 samples are small.
pub over_small : (ss : List LabSample) → length ss ≤ MOST_NODES → All (λ s. faulty_wordb s.word ≡ false) ss → SmallSubtotal (subtotal_over ss)
unfolding subtotal_over
over_small ss l h = record {
  samples = l;
  present = omega (arith, keep_fewer presentb ss);
  sum = omega (arith, sum_bound ss h);
}
