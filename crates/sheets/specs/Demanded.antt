-- docs/SCOPE.md, "The zone sheet": the words in which the demands on sheets are stated. No contract
-- cites them.
use Rattle.std.specs.Prelude.{ℕ, ◌+◌, ◌*◌, ◌≡◌, cond, List, [], ◌∷◌, map, eqb, get_or}
use Rattle.laws.specs.Choose.{any, keep}
use Rattle.answers.specs.Answer.{TAKEN}
use Rattle.answers.specs.Output.{words_in}
use Rattle.nodes.specs.declared.node.Node.{Node}
use Rattle.nodes.specs.Node.{insideb, sameb}
use Rattle.nodes.specs.Words.{words_of}
use Rattle.tickets.specs.Listing.{Pair}
use Rattle.forest.specs.Links.{NONE, indices, innermostb, link_of}
use Rattle.sheets.specs.declared.subtotal.Subtotal.{Subtotal}
use Rattle.sheets.specs.Hundredths.{NO_HUNDREDTHS}
use Rattle.sheets.specs.Sheet.{LabSample, SUBTOTAL_WORDS, plus, sheet_of}

-- A call is accepted: its answer is TAKEN.
abbrev pub AcceptedSheet : (zones samples hundredths out : List ℕ) → Type 0
AcceptedSheet zones samples hundredths out = (sheet_of zones samples hundredths out).verdict.answer ≡ TAKEN

-- The row at an index of an output, as a caller reads it: three words.
unfoldable pub subtotal_in : List ℕ → ℕ → Subtotal
subtotal_in out i = record {
  samples = get_or out (SUBTOTAL_WORDS * i) 0;
  present = get_or out (SUBTOTAL_WORDS * i + 1) 0;
  sum = get_or out (SUBTOTAL_WORDS * i + 2) 0;
}

-- Subtotals added up, column by column.
unfoldable pub total_of : List Subtotal → Subtotal
total_of [] = record { samples = 0; present = 0; sum = 0 }
total_of (t ∷ ts) = plus t (total_of ts)

-- The pairs of a listing whose ancestor is the zone.
unfoldable pub zone_pairs : Node → List Pair → List Pair
zone_pairs zone ps = keep (λ p. sameb p.ancestor zone) ps

-- The word of the sample that is identical with a node, or the word for missing where none is.
unfoldable pub word_for : List LabSample → Node → ℕ
word_for [] n = NO_HUNDREDTHS
word_for (s ∷ ss) n = cond (sameb s.node n) s.word (word_for ss n)

-- The descendants of some pairs, each with its word.
unfoldable pub descendants_of : List LabSample → List Pair → List LabSample
descendants_of ss ps = map (λ p. record { node = p.descendant; word = word_for ss p.descendant }) ps

-- A zone's own samples: those whose innermost zone it is.
unfoldable pub own_samples : List Node → Node → List LabSample → List LabSample
own_samples zones zone ss = keep (λ s. innermostb zones s.node zone) ss

-- The indices of a zone's child zones: those whose parent it is, by their links.
unfoldable pub children_of : List Node → ℕ → List ℕ
children_of zones i = keep (λ j. eqb (link_of zones j).parent i) (indices zones)

-- The indices of the outermost zones: those that have no parent.
unfoldable pub outermost : List Node → List ℕ
outermost zones = children_of zones NONE

-- The samples inside any zone.
unfoldable pub inside_any : List Node → List LabSample → List LabSample
inside_any zones ss = keep (λ s. any (λ zone. insideb s.node zone) zones) ss

-- The nodes of samples as a list of words, and the samples' own words as another.
unfoldable pub lab_words : List LabSample → List ℕ
lab_words ss = words_in (λ s. words_of s.node) ss

unfoldable pub hundredths_of : List LabSample → List ℕ
hundredths_of ss = map (λ s. s.word) ss
