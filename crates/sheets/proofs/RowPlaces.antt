-- Why it holds: Rows written from one place on, and then more from where these end, are as if they
-- had been written at once. So is a row written right before them.
-- What would break it: A row written over another one, or a word left between two, would be caught
-- here.
use mathlib.Core.Path.{◌≡◌, refl, sym, ap, ◌∙◌}
use mathlib.Core.List.{List, ◌∷◌, ◌++◌, append_assoc, flat_map}
use Prim.Native.Nat.{ℕ, suc, ◌+◌, ◌*◌, ◌/◌, ◌≤◌, ◌<◌}
use native.Mathlib.Omega.{arith}
use lib.ListN.{length, get_or, take, drop, take-append-drop, length-append, length-map}
use lib.Seq.{slice, sets, slice_empty, slice-cons, length-slice, length-take-le, take_at, drop_at}
use Rattle.laws.proofs.Choices.{map_there}
use Rattle.answers.specs.Output.{words_in, written}
use Rattle.answers.proofs.OutputLaws.{length_items, words_append, sets_before, written_beyond}
use Rattle.nodes.specs.Words.{node, nodes, node_at, count}
use Rattle.nodes.proofs.WordLaws.{length_nodes}
use Rattle.sheets.specs.declared.subtotal.Subtotal.{Subtotal}
use Rattle.sheets.specs.Private.Walk.{written_from, subtotals_from}
use Rattle.sheets.specs.Sheet.{row_of, subtotal_words, sheet_samples, sheet_subtotals, sheet_in}
use Rattle.laws.proofs.Slices.{slice_join, slice_all}

-- Words written from where the words before them end.
from_join : (at next : ℕ) (us vs out : List ℕ) → next ≡ at + length us → next ≤ length out
    → written_from next vs (written_from at us out) ≡ written_from at (us ++ vs) out
unfolding written_from written
from_join at next us vs out e l =
    let front = take at out ++ us in
    let rest = drop (length us) (drop at out) in
    let long : length front ≡ next = omega (arith, length-append (take at out) us, length-take-le at out (omega arith)) in
    let whole : take at out ++ (us ++ rest) ≡ front ++ rest = sym (append_assoc (take at out) us rest) in
    rw (whole, take_at front rest next long, drop_at front rest next long)
    (append_assoc (take at out) us _ ∙ ap (λ ws. take at out ++ ws) (written_beyond us vs (drop at out)))

three_words : (t : Subtotal) → length (subtotal_words t) ≡ 3
unfolding subtotal_words
three_words t = refl

pub length_subtotals : (rows : List Subtotal) → length (words_in subtotal_words rows) ≡ 3 * length rows
length_subtotals rows = length_items subtotal_words 3 three_words rows

module _ (zones samples hundredths : List ℕ) where
  abbrev rows : List Subtotal
  rows = sheet_subtotals zones samples hundredths

  pub rows_many : length rows ≡ count zones
  unfolding sheet_subtotals
  rows_many = length-map (nodes zones) (row_of (sheet_samples samples hundredths)) ∙ length_nodes zones

  pub row_at : (i : ℕ) → i < count zones → (d : Subtotal) → get_or rows i d ≡ row_of (sheet_samples samples hundredths) (node_at zones i)
  unfolding sheet_subtotals node_at
  row_at i l d = map_there (row_of (sheet_samples samples hundredths)) (nodes zones) i (omega (arith, length_nodes zones)) (node 0 0 0 0) d

  module _ (out : List ℕ) where
    pub rows_none : (i : ℕ) → out ≡ subtotals_from zones samples hundredths i i out
    unfolding written_from written words_in flat_map
    rows_none i = rw (slice_empty i rows) (sym (take-append-drop (3 * i) out))

    pub rows_all : (to : ℕ) → to ≡ count zones → subtotals_from zones samples hundredths 0 to out ≡ written (sheet_in zones samples hundredths) out
    unfolding written_from sheet_in
    rows_all to e = ap (λ rs. written (words_in subtotal_words rs) out) (ap (λ n. slice 0 n rows) (e ∙ sym rows_many) ∙ slice_all rows)

    module _ (room : count zones ≤ length out / 3) where
      pub rows_join : (from mid to : ℕ) {one both : List ℕ} → from ≤ mid → mid ≤ to → to ≤ count zones
          → one ≡ subtotals_from zones samples hundredths from mid out → both ≡ subtotals_from zones samples hundredths mid to one
          → both ≡ subtotals_from zones samples hundredths from to out
      rows_join from mid to k l m p q =
          let many = rows_many in
          q ∙ ap (subtotals_from zones samples hundredths mid to) p
          ∙ from_join (3 * from) (3 * mid) (words_in subtotal_words (slice from mid rows)) (words_in subtotal_words (slice mid to rows)) out
          (omega (arith, length_subtotals (slice from mid rows), length-slice from mid rows (omega arith))) (omega arith)
          ∙ ap (λ ws. written_from (3 * from) ws out) (sym (words_append subtotal_words (slice from mid rows) (slice mid to rows))
          ∙ ap (words_in subtotal_words) (slice_join rows from mid to k l (omega arith)))

      pub rows_before : (i to : ℕ) (t : Subtotal) {later all : List ℕ} → i < to → to ≤ count zones
          → t ≡ row_of (sheet_samples samples hundredths) (node_at zones i)
          → later ≡ subtotals_from zones samples hundredths (i + 1) to out → all ≡ sets later (3 * i) (subtotal_words t)
          → all ≡ subtotals_from zones samples hundredths i to out
      unfolding written_from words_in flat_map
      rows_before i to t k l q p r =
          let many = rows_many in
          let e : 3 * (i + 1) ≡ 3 * i + length (subtotal_words t) = omega (arith, three_words t) in
          let s : suc i ≡ i + 1 = omega arith in
          r ∙ ap (λ ws. sets ws (3 * i) (subtotal_words t)) p
          ∙ ap (λ n. sets (take n out ++ written (words_in subtotal_words (slice (i + 1) to rows)) (drop n out)) (3 * i) (subtotal_words t)) e
          ∙ sets_before out (3 * i) (subtotal_words t) (words_in subtotal_words (slice (i + 1) to rows)) (omega (arith, three_words t))
          ∙ ap (λ ws. take (3 * i) out ++ written ws (drop (3 * i) out))
          (ap (λ n. subtotal_words t ++ words_in subtotal_words (slice n to rows)) (sym s)
          ∙ ap (words_in subtotal_words) (ap (λ u. u ∷ slice (suc i) to rows) (q ∙ sym (row_at i (omega arith) t)) ∙ sym (slice-cons i to rows t k (omega arith))))
