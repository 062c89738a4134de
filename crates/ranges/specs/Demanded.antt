-- docs/SCOPE.md, "Lab readings": the words in which the demands on ranges are stated. No contract
-- cites them.
use Rattle.std.specs.Prelude.{ℕ, ◌≡◌, Bool, true, false, not, List, [], ◌∷◌, ◌++◌, eqb, Float, length, Ok, Err}
use Rattle.std.specs.Float.Ieee.{eq}
use Rattle.answers.specs.Output.{words_in}
use Rattle.laws.specs.Choose.{All, In, keep}
use Rattle.nodes.specs.declared.node.Node.{Node}
use Rattle.nodes.specs.Node.{insideb}
use Rattle.nodes.specs.Words.{words_of}
use Rattle.readings.specs.Reading.{MISSING}
use Rattle.readings.specs.Sample.{Sample, reading_of, faultyb, percent_in}
use Rattle.ranges.specs.Range.{ZoneRange, zone_range}

-- Whether an answer is a refusal.
abbrev pub refusalb : ZoneRange → Bool
refusalb (Ok found) = false
refusalb (Err refusal) = true

-- A call is accepted: its answer isn't a refusal.
abbrev pub AcceptedRange : (zones samples readings : List ℕ) (zone : ℕ) → Type 0
AcceptedRange zones samples readings zone = refusalb (zone_range zones samples readings zone) ≡ false

-- The samples whose reading isn't missing.
unfoldable pub not_missing : List Sample → List Sample
not_missing ss = keep (λ s. not (eqb s.kind MISSING)) ss

-- Samples as a list of words, and their readings as another.
unfoldable pub sample_words : List Sample → List ℕ
sample_words ss = words_in (λ s. words_of s.node) ss

unfoldable pub reading_words : List Sample → List ℕ
reading_words ss = words_in (λ s. s.kind ∷ s.bits ∷ []) ss

-- The sample's reading is present, and p is its percentage.
abbrev pub Gives : Sample → Float → Type 0
Gives s p = percent_in (reading_of s) ≡ p ∷ []

-- The sample has no present reading.
abbrev pub GivesNone : Sample → Type 0
GivesNone s = percent_in (reading_of s) ≡ []

-- A sample inside the zone gives p. No sample inside the zone gives what lies beyond p, and none
-- before that sample gives what equals p. `beyond` is `below` for the low and `above` for the high.
pub record Extreme (beyond : Float → Float → Bool) (zone : Node) (ss : List Sample) (p : Float) : Type 0 where
  pub sample : Sample
  pub earlier : List Sample
  pub later : List Sample
  pub split : ss ≡ earlier ++ (sample ∷ later)
  pub inside : insideb sample.node zone ≡ true
  pub gives : Gives sample p
  pub none_beyond : (s : Sample) (q : Float) → In s ss → insideb s.node zone ≡ true → Gives s q → beyond q p ≡ false
  pub first : (s : Sample) (q : Float) → In s earlier → insideb s.node zone ≡ true → Gives s q → eq q p ≡ false

-- The sample at index i has a faulty reading, and none before it has.
pub record FirstFaulty (ss : List Sample) (i : ℕ) : Type 0 where
  pub sample : Sample
  pub earlier : List Sample
  pub later : List Sample
  pub split : ss ≡ earlier ++ (sample ∷ later)
  pub index : length earlier ≡ i
  pub faulty : faultyb sample ≡ true
  pub sound : All (λ s. faultyb s ≡ false) earlier
