-- The demands on zone sheets (docs/SCOPE.md, "The zone sheet"). Each clause is a comment in words
-- and, below it, the theorem that says it. `sheet_of` and `sheet_output` are what the contract of
-- `write_sheet` promises. The other words of the theorems are in crates/sheets/specs/. A change
-- that counted a sample twice, or added a missing reading, would be caught here.
use mathlib.Core.Path.{◌≡◌, refl, sym, ◌∙◌}
use mathlib.Core.Logic.{◌↔◌}
use mathlib.Core.Bool.{Bool, true, false}
use mathlib.Core.List.{List, map}
use Prim.Native.Nat.{ℕ, ◌*◌, ◌≤◌, ◌<◌}
use lib.ListN.{length, get_or}
use Rattle.answers.specs.Answer.{TAKEN, RAGGED, ROOM, READING}
use Rattle.answers.specs.declared.verdict.Verdict.{Verdict}
use Rattle.answers.specs.Verdict.{ANCESTORS, verdict, taken, counted}
use Rattle.laws.specs.Choose.{All, keep}
use Rattle.nodes.specs.declared.node.Node.{Node}
use Rattle.nodes.specs.Words.{MOST_NODES, nodes, node_at, count}
use Rattle.lists.specs.Two.{check_two}
use Rattle.tickets.specs.declared.ticket.Order.{Order}
use Rattle.tickets.specs.declared.ticket.Relation.TheVariants.{Inside}
use Rattle.tickets.specs.Listing.{listing}
use Rattle.tickets.specs.Ticket.{asked}
use Rattle.forest.specs.Links.{node_in}
use Rattle.sheets.specs.declared.subtotal.Subtotal.{Subtotal}
use Rattle.sheets.specs.Demanded.{AcceptedSheet, subtotal_in, total_of, zone_pairs, descendants_of, own_samples, children_of, outermost, inside_any, lab_words, hundredths_of}
use Rattle.sheets.specs.Hundredths.{MOST_HUNDREDTHS, NO_HUNDREDTHS, faulty_wordb}
use Rattle.sheets.specs.Sheet.{LabSample, presentb, inside_zone, subtotal_over, plus, row_of, SUBTOTAL_WORDS, sheet_samples, sheet_of, sheet_output}
use Rattle.sheets.proofs.Answered.{accepted_iff, accepted_answer, lists_told, ragged_iff, reading_iff, reading_named, room_iff}
use Rattle.sheets.proofs.Bounds.{row_bounded}
use Rattle.sheets.proofs.FaultyWords.{word_faulty_iff}
use Rattle.sheets.proofs.Listed.{inside_zone_lem, row_listed}
use Rattle.sheets.proofs.Rows.{row_told}
use Rattle.sheets.proofs.Totals.{row_adds, rows_outermost}
use Rattle.sheets.proofs.Without.{kept_accepted, without_missing}

-- A word is faulty exactly when it is above one hundred percent and isn't the word for a missing
-- reading.
pub word_faulty_exactly_when : (word : ℕ) → (faulty_wordb word ≡ true) ↔ ((MOST_HUNDREDTHS < word) × (word ≡ NO_HUNDREDTHS → ⊥))
word_faulty_exactly_when = word_faulty_iff

-- A call is lent zones, samples, a word for each sample, and an output.
module _ (zones samples hundredths out : List ℕ) where
  abbrev answered : Verdict
  answered = (sheet_of zones samples hundredths out).verdict

  -- Its zones, its samples with their words, and the row that the caller reads at an index.
  abbrev ns : List Node
  ns = nodes zones

  abbrev ss : List LabSample
  ss = sheet_samples samples hundredths

  abbrev sheet_row : ℕ → Subtotal
  sheet_row i = subtotal_in (sheet_output zones samples hundredths out) i

  -- The samples of a zone's pairs in the full listing, each with its word.
  abbrev listed : Order → ℕ → List LabSample
  listed order i = descendants_of ss (zone_pairs (node_at zones i) (listing (asked Inside order) ns (nodes samples)))

  -- It is accepted exactly when the two lists are, there are as many words as samples, no word is
  -- faulty, and the output has room for all rows.
  pub sheet_accepted_exactly_when : AcceptedSheet zones samples hundredths out ↔ (((check_two zones samples).answer ≡ TAKEN)
      × (length hundredths ≡ count samples) × All (λ w. faulty_wordb w ≡ false) hundredths × (SUBTOTAL_WORDS * count zones ≤ length out))
  sheet_accepted_exactly_when = accepted_iff zones samples hundredths out

  -- What the check of the two lists refuses is refused with its answer, whatever else is wrong.
  pub sheet_lists_come_first : ((check_two zones samples).answer ≡ TAKEN → ⊥) → answered ≡ check_two zones samples
  sheet_lists_come_first = lists_told zones samples hundredths out

  -- Where the lists pass, RAGGED is answered exactly when the words aren't as many as the samples.
  pub sheet_ragged_exactly_when : (check_two zones samples).answer ≡ TAKEN
      → (answered ≡ verdict RAGGED ANCESTORS 0) ↔ (length hundredths ≡ count samples → ⊥)
  sheet_ragged_exactly_when = ragged_iff zones samples hundredths out

  -- READING at the index i is answered exactly when the lists pass, there is a word for each
  -- sample, the word at i is faulty, and none before it is.
  pub sheet_reading_exactly_when : (i : ℕ) → (answered ≡ verdict READING ANCESTORS i)
      ↔ (((check_two zones samples).answer ≡ TAKEN) × (length hundredths ≡ count samples)
      × ((i < length hundredths) × (faulty_wordb (get_or hundredths i 0) ≡ true) × ((k : ℕ) → k < i → faulty_wordb (get_or hundredths k 0) ≡ false)))
  sheet_reading_exactly_when = reading_iff zones samples hundredths out

  -- No other refusal has the answer READING.
  pub sheet_no_other_reading : answered.answer ≡ READING → answered ≡ verdict READING ANCESTORS answered.index
  sheet_no_other_reading = reading_named zones samples hundredths out

  -- ROOM is answered exactly when nothing else is wrong and the output is too short.
  pub sheet_room_exactly_when : (answered ≡ verdict ROOM ANCESTORS 0) ↔ (((check_two zones samples).answer ≡ TAKEN)
      × (length hundredths ≡ count samples) × All (λ w. faulty_wordb w ≡ false) hundredths × (length out < SUBTOTAL_WORDS * count zones))
  sheet_room_exactly_when = room_iff zones samples hundredths out

  -- Where it is accepted:
  module _ (accepted : AcceptedSheet zones samples hundredths out) where
    -- It counts the zones.
    pub sheet_counts_the_zones : sheet_of zones samples hundredths out ≡ counted taken (count zones)
    sheet_counts_the_zones = accepted_answer zones samples hundredths out accepted

    -- Each zone has its row, in list order, over the samples inside it.
    pub row_of_each_zone : (i : ℕ) → i < count zones → sheet_row i ≡ row_of ss (node_at zones i)
    row_of_each_zone = row_told zones samples hundredths out accepted

    -- These are the samples of the zone's pairs in the full listing, in either order.
    pub zone_has_the_listed_samples : (order : Order) (i : ℕ) → i < count zones → inside_zone (node_at zones i) ss ≡ listed order i
    zone_has_the_listed_samples = inside_zone_lem zones samples hundredths out accepted

    -- So each row is over the full listing's pairs of its zone,
    pub row_is_over_the_listing : (order : Order) (i : ℕ) → i < count zones → sheet_row i ≡ subtotal_over (listed order i)
    row_is_over_the_listing = row_listed zones samples hundredths out accepted

    -- and the order of the listing doesn't matter.
    pub either_order_gives_the_row : (one other : Order) (i : ℕ) → i < count zones → subtotal_over (listed one i) ≡ subtotal_over (listed other i)
    either_order_gives_the_row one other i l = sym (row_is_over_the_listing one i l) ∙ row_is_over_the_listing other i l

    -- Zone by zone: a row is the subtotal of the zone's own samples and the rows of its child
    -- zones, added up in all three columns.
    pub row_adds_its_children : (i : ℕ) → i < count zones
        → sheet_row i ≡ plus (subtotal_over (own_samples ns (node_in ns i) ss)) (total_of (map sheet_row (children_of ns i)))
    row_adds_its_children = row_adds zones samples hundredths out accepted

    -- The outermost zones' rows together are the subtotal of the samples inside any zone, in all
    -- three columns.
    pub outermost_rows_are_all : total_of (map sheet_row (outermost ns)) ≡ subtotal_over (inside_any ns ss)
    outermost_rows_are_all = rows_outermost zones samples hundredths out accepted

    -- A missing reading never adds. Leave out any samples whose reading is missing, with their
    -- words: the call is accepted, and each row has as many present and the same sum.
    pub missing_never_adds : (chosen : LabSample → Bool) → All (λ s. chosen s ≡ false → presentb s ≡ false) ss
        → let kept = keep chosen ss in
        AcceptedSheet zones (lab_words kept) (hundredths_of kept) out × ((i : ℕ) → i < count zones
        → let left = subtotal_in (sheet_output zones (lab_words kept) (hundredths_of kept) out) i in
        (left.present ≡ (sheet_row i).present) × (left.sum ≡ (sheet_row i).sum))
    missing_never_adds chosen missing =
        (kept_accepted zones samples hundredths out chosen accepted, without_missing zones samples hundredths out chosen accepted missing)

    -- No more samples are present than are inside the zone, and these are no more than a list may
    -- have.
    pub row_counts_are_bounded : (i : ℕ) → i < count zones → ((sheet_row i).present ≤ (sheet_row i).samples) × ((sheet_row i).samples ≤ MOST_NODES)
    row_counts_are_bounded i l = let b = row_bounded zones samples hundredths out accepted i l in (b.0, b.1)

    -- So no sum is larger than 40,960,000, and none overflows a word.
    pub row_sum_is_bounded : (i : ℕ) → i < count zones
        → ((sheet_row i).sum ≤ MOST_NODES * MOST_HUNDREDTHS) × (MOST_NODES * MOST_HUNDREDTHS ≡ 40960000)
    row_sum_is_bounded i l = ((row_bounded zones samples hundredths out accepted i l).2, refl)
