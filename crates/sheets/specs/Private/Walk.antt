-- How far a walk along the zones and the samples has come, for the contracts of private functions.
use Rattle.std.specs.Prelude.{ℕ, ◌*◌, ◌≤◌, ◌<◌, ◌≡◌, true, false, cond, List, ◌++◌, length, take, drop}
use Rattle.std.proofs.Math.Seq.{slice}
use Rattle.laws.specs.Choose.{All}
use Rattle.answers.specs.Output.{written, words_in}
use Rattle.nodes.specs.declared.node.Node.{Node}
use Rattle.nodes.specs.Node.{insideb, afterb}
use Rattle.nodes.specs.Words.{MOST_NODES, node, node_at, count}
use Rattle.sheets.specs.declared.subtotal.Subtotal.{Subtotal}
use Rattle.sheets.specs.Hundredths.{MOST_HUNDREDTHS, missingb, faulty_wordb}
use Rattle.sheets.specs.Sheet.{SUBTOTAL_WORDS, subtotal_words, sheet_subtotals}

-- The subtotal of one sample, by its word.
abbrev pub of_word : ℕ → Subtotal
of_word word = cond (missingb word) (record { samples = 1; present = 0; sum = 0 }) (record { samples = 1; present = 1; sum = word })

-- No column is larger than that of 4,096 samples can be.
pub record SmallSubtotal (t : Subtotal) : Type 0 where
  pub samples : t.samples ≤ MOST_NODES
  pub present : t.present ≤ MOST_NODES
  pub sum : t.sum ≤ MOST_NODES * MOST_HUNDREDTHS

-- A text at the end of a zone: what stands after it stands after all that is inside the zone.
abbrev pub end_text : Node → Node
end_text zone = node zone.document zone.end zone.end zone.level

-- No sample before the index stands after `limit`.
abbrev pub NoneAfter : List ℕ → Node → ℕ → Type 0
NoneAfter samples limit index = (k : ℕ) → k < index → afterb (node_at samples k) limit ≡ false

-- The index is that of the first sample after `limit`, or the number of samples where none is.
pub record FirstAfter (samples : List ℕ) (limit : Node) (index : ℕ) : Type 0 where
  pub end : index ≤ count samples
  pub by : NoneAfter samples limit index
  pub stop : index < count samples → afterb (node_at samples index) limit ≡ true

-- The zones after `zone` that are inside it are those before `next`.
pub record InsideUpTo (zones : List ℕ) (zone next : ℕ) : Type 0 where
  pub later : zone < next
  pub end : next ≤ count zones
  pub inside : (k : ℕ) → zone < k → k < next → insideb (node_at zones k) (node_at zones zone) ≡ true
  pub stop : next < count zones → insideb (node_at zones next) (node_at zones zone) ≡ false

-- Samples that are not too many, with a word for each and none of the words faulty.
pub record Measured (samples hundredths : List ℕ) : Type 0 where
  pub few : count samples ≤ MOST_NODES
  pub matched : length hundredths ≡ count samples
  pub words : All (λ w. faulty_wordb w ≡ false) hundredths

-- The output with `words` written from an index on.
unfoldable pub written_from : ℕ → List ℕ → List ℕ → List ℕ
written_from at words out = take at out ++ written words (drop at out)

-- The output with the rows of the zones from one index up to another written at their places.
abbrev pub subtotals_from : (zones samples hundredths : List ℕ) → ℕ → ℕ → List ℕ → List ℕ
subtotals_from zones samples hundredths from to out =
    written_from (SUBTOTAL_WORDS * from) (words_in subtotal_words (slice from to (sheet_subtotals zones samples hundredths))) out
