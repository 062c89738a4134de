-- Why it holds: A sample adds one to the samples, at most one to the present ones, and at most
-- MOST_HUNDREDTHS to the sum where it is present. No call has more than MOST_NODES samples.
-- What would break it: A missing word that were added, or a faulty one let through, would be caught
-- here.
use mathlib.Core.Path.{◌≡◌, subst, sym}
use mathlib.Core.Bool.{Bool, false}
use mathlib.Core.List.{List}
use Prim.Native.Nat.{ℕ, ◌*◌, ◌≤◌, ◌<◌}
use native.Mathlib.Omega.{arith}
use lib.ListN.{length}
use Rattle.laws.specs.Choose.{All}
use Rattle.laws.proofs.Choices.{keep_all_of, keep_fewer}
use Rattle.nodes.specs.Node.{insideb}
use Rattle.nodes.specs.Words.{MOST_NODES, nodes, node_at, count}
use Rattle.nodes.proofs.WordLaws.{length_nodes}
use Rattle.lists.proofs.Pairing.{two_taken_iff}
use Rattle.lists.proofs.Taken.{words_taken_iff}
use Rattle.sheets.specs.declared.subtotal.Subtotal.{Subtotal}
use Rattle.sheets.specs.Demanded.{AcceptedSheet, subtotal_in}
use Rattle.sheets.specs.Hundredths.{MOST_HUNDREDTHS, faulty_wordb}
use Rattle.sheets.specs.Sheet.{LabSample, presentb, inside_zone, subtotal_over, sheet_samples, sheet_output}
use Rattle.sheets.proofs.Answered.{accepted_iff}
use Rattle.sheets.proofs.LabSamples.{labs_few, labs_words}
use Rattle.sheets.proofs.Rows.{row_told}
use Rattle.sheets.proofs.Subtotals.{over_small}

-- A row's numbers: no more are present than there are samples, these are at most MOST_NODES, and
-- the sum is at most MOST_HUNDREDTHS for each.
abbrev pub Bounded : Subtotal → Type 0
Bounded t = (t.present ≤ t.samples) × (t.samples ≤ MOST_NODES) × (t.sum ≤ MOST_NODES * MOST_HUNDREDTHS)

subtotal_bounded : (ss : List LabSample) → length ss ≤ MOST_NODES → All (λ s. faulty_wordb s.word ≡ false) ss → Bounded (subtotal_over ss)
unfolding subtotal_over
subtotal_bounded ss few h = let small = over_small ss few h in (keep_fewer presentb ss, small.samples, small.sum)

module _ (zones samples hundredths out : List ℕ) (accepted : AcceptedSheet zones samples hundredths out) where
  pub row_bounded : (i : ℕ) → i < count zones → Bounded (subtotal_in (sheet_output zones samples hundredths out) i)
  unfolding inside_zone
  row_bounded i l =
      let p = (accepted_iff zones samples hundredths out).0 accepted in
      let ss = sheet_samples samples hundredths in
      let zone = node_at zones i in
      let inside : LabSample → Bool = λ s. insideb s.node zone in
      let few = ((words_taken_iff samples).0 ((two_taken_iff zones samples).0 p.0).1).1 in
      subst Bounded (sym (row_told zones samples hundredths out accepted i l))
      (subtotal_bounded (inside_zone zone ss)
      (omega (arith, few, length_nodes samples, labs_few (nodes samples) hundredths, keep_fewer inside ss))
      (keep_all_of (λ s. faulty_wordb s.word ≡ false) inside ss (labs_words (λ w. faulty_wordb w ≡ false) (nodes samples) hundredths p.2)))
