-- docs/SCOPE.md, "The zone sheet": a row for each zone, over the samples inside it, and the order
-- of the checks.
use Rattle.std.specs.Prelude.{ℕ, ◌+◌, Bool, cond, not, List, [], ◌∷◌, map, eqb, length}
use Rattle.laws.specs.Choose.{any, keep, first_at}
use Rattle.answers.specs.Answer.{RAGGED, READING}
use Rattle.answers.specs.Output.{words_in, answer_of, if_taken, output_of}
use Rattle.answers.specs.declared.verdict.Counted.{Counted}
use Rattle.answers.specs.declared.verdict.Verdict.{Verdict}
use Rattle.answers.specs.Verdict.{ANCESTORS, verdict, taken, refusedb}
use Rattle.nodes.specs.declared.node.Node.{Node}
use Rattle.nodes.specs.Node.{insideb}
use Rattle.nodes.specs.Words.{nodes, count}
use Rattle.lists.specs.Two.{check_two}
use Rattle.sheets.specs.declared.subtotal.Subtotal.{Subtotal}
use Rattle.sheets.specs.Hundredths.{missingb, faulty_wordb}

-- A sample of the sheet: its node, and its word.
pub record LabSample : Type 0 where
  pub node : Node
  pub word : ℕ

-- Nodes and words as samples, one after the other, as far as both go.
unfoldable pub lab_samples : List Node → List ℕ → List LabSample
lab_samples [] words = []
lab_samples (n ∷ ns) [] = []
lab_samples (n ∷ ns) (w ∷ words) = record { node = n; word = w } ∷ lab_samples ns words

-- The sample's reading is present.
abbrev pub presentb : LabSample → Bool
presentb s = not (missingb s.word)

-- The samples inside a zone, in their order.
unfoldable pub inside_zone : Node → List LabSample → List LabSample
inside_zone zone ss = keep (λ s. insideb s.node zone) ss

-- The sum of some numbers.
unfoldable pub sum_of : List ℕ → ℕ
sum_of [] = 0
sum_of (n ∷ ns) = n + sum_of ns

-- What a row says of some samples: how many they are, how many are present, and the sum of the
-- words of those.
unfoldable pub subtotal_over : List LabSample → Subtotal
subtotal_over ss = record {
  samples = length ss;
  present = length (keep presentb ss);
  sum = sum_of (map (λ s. s.word) (keep presentb ss));
}

-- Two subtotals added up, column by column.
abbrev pub plus : Subtotal → Subtotal → Subtotal
plus t u = record { samples = t.samples + u.samples; present = t.present + u.present; sum = t.sum + u.sum }

-- The row of a zone is over the samples inside it.
abbrev pub row_of : List LabSample → Node → Subtotal
row_of ss zone = subtotal_over (inside_zone zone ss)

-- How many words a row takes.
abbrev pub SUBTOTAL_WORDS : ℕ
SUBTOTAL_WORDS = 3

-- The three words of a row.
unfoldable pub subtotal_words : Subtotal → List ℕ
subtotal_words t = t.samples ∷ t.present ∷ t.sum ∷ []

-- The samples of a call, each with its word.
abbrev pub sheet_samples : List ℕ → List ℕ → List LabSample
sheet_samples samples hundredths = lab_samples (nodes samples) hundredths

-- There is a word for each sample.
unfoldable pub matchedb : List ℕ → List ℕ → Bool
matchedb samples hundredths = eqb (length hundredths) (count samples)

module _ (zones samples hundredths : List ℕ) where
  -- The sheet: a row for each zone, in list order.
  unfoldable pub sheet_subtotals : List Subtotal
  sheet_subtotals = map (row_of (sheet_samples samples hundredths)) (nodes zones)

  -- The words of the sheet.
  unfoldable pub sheet_in : List ℕ
  sheet_in = words_in subtotal_words sheet_subtotals

  -- The verdict before the room is looked at. The checks of the two lists come first, then RAGGED
  -- for words that aren't as many as the samples, then READING for the first faulty word.
  unfoldable pub check_sheet : Verdict
  check_sheet =
      cond (refusedb (check_two zones samples)) (check_two zones samples)
      (cond (not (matchedb samples hundredths)) (verdict RAGGED ANCESTORS 0)
      (cond (any faulty_wordb hundredths) (verdict READING ANCESTORS (first_at faulty_wordb hundredths)) taken))

  module _ (out : List ℕ) where
    -- The call answers that refusal, then ROOM, or else TAKEN; it counts the zones.
    unfoldable pub sheet_of : Counted
    sheet_of = record {
      verdict = verdict (answer_of check_sheet.answer sheet_in out) check_sheet.list check_sheet.index;
      count = if_taken check_sheet.answer sheet_in out (length (nodes zones)) 0;
    }

    -- The call writes the words of the sheet; on refusal the output is as it was.
    unfoldable pub sheet_output : List ℕ
    sheet_output = output_of check_sheet.answer sheet_in out
