-- Why it holds: Each row takes three words, so row number i begins at word 3 * i of the sheet. An
-- accepted call writes the sheet at the beginning of the output.
-- What would break it: A row one word off, or one of another zone, would be caught here.
use mathlib.Core.Path.{◌≡◌, refl, ap, ◌∙◌}
use mathlib.Core.List.{List, [], ◌∷◌, ◌++◌, flat_map}
use Prim.Native.Nat.{ℕ, zero, suc, ◌+◌, ◌*◌, ◌<◌}
use native.Mathlib.Nat.{not-suc-le-zero}
use native.Mathlib.Omega.{arith}
use lib.ListN.{length, get_or}
use Rattle.answers.specs.Output.{words_in, written}
use Rattle.nodes.specs.Words.{node_at, count}
use Rattle.sheets.specs.declared.subtotal.Subtotal.{Subtotal}
use Rattle.sheets.specs.Demanded.{AcceptedSheet, subtotal_in}
use Rattle.sheets.specs.Sheet.{row_of, subtotal_over, subtotal_words, sheet_samples, sheet_subtotals, sheet_in, sheet_output}
use Rattle.sheets.proofs.Answered.{accepted_output}
use Rattle.sheets.proofs.RowPlaces.{rows_many, row_at}

-- Past the first row, the words are those of the others.
beyond_row : (a b c : ℕ) (ws : List ℕ) {k m : ℕ} → m ≡ suc (suc (suc k)) → get_or (a ∷ b ∷ c ∷ ws) m 0 ≡ get_or ws k 0
beyond_row a b c ws q = rw q

row_later : (a b c : ℕ) (ws : List ℕ) (i : ℕ) → subtotal_in (a ∷ b ∷ c ∷ ws) (suc i) ≡ subtotal_in ws i
unfolding subtotal_in
row_later a b c ws i = λ t. record {
  samples = beyond_row a b c ws {k = 3 * i} {m = 3 * suc i} (omega arith) t;
  present = beyond_row a b c ws {k = 3 * i + 1} {m = 3 * suc i + 1} (omega arith) t;
  sum = beyond_row a b c ws {k = 3 * i + 2} {m = 3 * suc i + 2} (omega arith) t;
}

-- A row is read as it was written.
row_there : (ts : List Subtotal) (rest : List ℕ) (i : ℕ) (d : Subtotal) → i < length ts
    → subtotal_in (words_in subtotal_words ts ++ rest) i ≡ get_or ts i d
unfolding words_in flat_map subtotal_words subtotal_in
row_there [] rest i d l = absurd (not-suc-le-zero l)
row_there (t ∷ ts) rest zero d l = refl
row_there (t ∷ ts) rest (suc i) d l =
    row_later t.samples t.present t.sum (words_in subtotal_words ts ++ rest) i ∙ row_there ts rest i d (omega arith)

-- The row of each zone is over the samples inside it.
module _ (zones samples hundredths out : List ℕ) (accepted : AcceptedSheet zones samples hundredths out) where
  pub row_told : (i : ℕ) → i < count zones
      → subtotal_in (sheet_output zones samples hundredths out) i ≡ row_of (sheet_samples samples hundredths) (node_at zones i)
  unfolding written sheet_in
  row_told i l =
      ap (λ ws. subtotal_in ws i) (accepted_output zones samples hundredths out accepted)
      ∙ row_there (sheet_subtotals zones samples hundredths) _ i (subtotal_over []) (omega (arith, rows_many zones samples hundredths))
      ∙ row_at zones samples hundredths i l (subtotal_over [])
