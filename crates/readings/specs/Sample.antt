-- docs/SCOPE.md, "Lab readings": samples with their readings, which of them are faulty, and the
-- percentages that are present.
use Rattle.std.specs.Prelude.{ℕ, ◌*◌, Bool, true, false, eqb, length, Float, Option, None, Some}
use mathlib.Core.List.{List, [], ◌∷◌, flat_map}
use Rattle.nodes.specs.declared.node.Node.{Node}
use Rattle.nodes.specs.Words.{nodes, count}
use Rattle.laws.specs.Choose.{keep}
use Rattle.nodes.specs.Node.{insideb}
use Rattle.readings.specs.declared.reading.Reading.{Reading}
use Rattle.readings.specs.Reading.{decode, percent_of}

-- How many words a reading takes.
abbrev pub READING_WORDS : ℕ
READING_WORDS = 2

-- A sample: its node, and the two words of its reading.
pub record Sample : Type 0 where
  pub node : Node
  pub kind : ℕ
  pub bits : ℕ

-- Nodes and readings as samples, one after the other, as far as both go.
unfoldable pub sampled : List Node → List ℕ → List Sample
sampled [] words = []
sampled (n ∷ ns) [] = []
sampled (n ∷ ns) (kind ∷ []) = []
sampled (n ∷ ns) (kind ∷ bits ∷ words) = record { node = n; kind = kind; bits = bits } ∷ sampled ns words

-- The samples of a list of words and the words of their readings.
abbrev pub samples_in : List ℕ → List ℕ → List Sample
samples_in samples readings = sampled (nodes samples) readings

-- There are as many readings as samples.
unfoldable pub pairedb : List ℕ → List ℕ → Bool
pairedb samples readings = eqb (length readings) (READING_WORDS * count samples)

-- What a sample's two words stand for.
abbrev pub reading_of : Sample → Option Reading
reading_of s = decode s.kind s.bits

-- Whether what two words are decoded to is a fault.
abbrev pub fault_in : Option Reading → Bool
fault_in (Some reading) = false
fault_in None = true

-- Whether a sample's reading is faulty.
abbrev pub faultyb : Sample → Bool
faultyb s = fault_in (reading_of s)

-- The value of a percentage as a list: of one value, or of none where it is missing.
abbrev pub values_of : Option Float → List Float
values_of (Some percent) = percent ∷ []
values_of None = []

-- What two words give in percent: one value, or none.
abbrev pub percent_in : Option Reading → List Float
percent_in (Some reading) = values_of (percent_of reading)
percent_in None = []

-- The samples inside a zone, in their order.
unfoldable pub in_zone : Node → List Sample → List Sample
in_zone zone ss = keep (λ s. insideb s.node zone) ss

-- The percentages of the present readings, in the order of the samples.
unfoldable pub present : List Sample → List Float
present ss = flat_map (λ s. percent_in (reading_of s)) ss
