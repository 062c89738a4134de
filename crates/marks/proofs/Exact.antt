-- Why it holds: A table tells its marks. So TABLE is answered exactly where no accepted marks have
-- the rows. Numbering and its way back undo one another, word for word.
-- What would break it: A table refused although marks have it, or a table turned into marks that
-- number otherwise, would be caught here.
use mathlib.Core.Path.{◌≡◌, refl, sym}
use mathlib.Core.Logic.{◌↔◌, inl, inr}
use mathlib.Core.Bool.{true, not}
use mathlib.Core.List.{List}
use Prim.Native.Nat.{ℕ, ◌%◌, ◌/◌, ◌≤◌}
use native.Mathlib.Omega.{arith}
use lib.Dec.{ltb, eqb}
use lib.ListN.{length}
use borrow.Author.Tests.{ltb-false, eqb-true, eqb-false, le-ltb, eq-eqb}
use Rattle.answers.specs.Answer.{TAKEN, TABLE}
use Rattle.nodes.specs.Words.{MOST_NODES}
use Rattle.laws.proofs.Tests.{either, not_so, not_none}
use Rattle.lists.proofs.Faults.{skip}
use Rattle.marks.specs.declared.row.Row.{Row}
use Rattle.marks.specs.Back.{Numbering, document_of, numberedb, check_table}
use Rattle.marks.specs.Mark.{check_marks}
use Rattle.marks.specs.Outcome.{table_marks}
use Rattle.marks.specs.Table.{ROW_WORDS, table_of, table_words, rows, row_fault}
use Rattle.marks.proofs.Inverse.{tell_document, tell_marks, numbered_read, numbered_make}
use Rattle.marks.proofs.MarkLaws.{check_read}
use Rattle.marks.proofs.Numbered.{few_rows}
use Rattle.marks.proofs.RowLaws.{rows_of_words, words_of_rows, length_words}

-- Rows are a table exactly where some accepted marks have them.
pub table_exact : (rs : List Row) → (numberedb rs ≡ true) ↔ Numbering rs
table_exact rs = (numbered_read rs, numbered_make rs)

pub whole_rows : (words : List ℕ) → (row_fault words ≡ TAKEN) ↔ ((length words % ROW_WORDS ≡ 0) × (length words / ROW_WORDS ≤ MOST_NODES))
unfolding row_fault
whole_rows words = (
  λ h. let p = (skip (not (eqb (length words % ROW_WORDS) 0)) _ _).0 h in
      let q = (skip (ltb MOST_NODES (length words / ROW_WORDS)) _ _).0 p.1 in
      let w = not_none (eqb (length words % ROW_WORDS) 0) p.0 in
      (eqb-true (length words % ROW_WORDS) 0 w, ltb-false MOST_NODES (length words / ROW_WORDS) q.0),
  λ h. rw (eq-eqb (length words % ROW_WORDS) 0 h.0, le-ltb MOST_NODES (length words / ROW_WORDS) h.1),
)

-- No other fault is TABLE.
other_fault : (words : List ℕ) → row_fault words ≡ TABLE → ⊥
unfolding row_fault
other_fault words h =
    elim (either (eqb (length words % ROW_WORDS) 0)) [
      | inl w ↦ elim (either (ltb MOST_NODES (length words / ROW_WORDS))) [
        | inl l ↦ let e = rw (w, l) at h in omega (arith, e)
        | inr l ↦ let e = rw (w, l) at h in omega (arith, e)
      ]
      | inr w ↦ let e = rw w at h in omega (arith, e)
    ]

module _ (words : List ℕ) where
  pub taken_exact : (check_table words ≡ TAKEN) ↔ ((row_fault words ≡ TAKEN) × Numbering (rows words))
  unfolding check_table
  taken_exact = (
    λ h. elim (either (eqb (row_fault words) TAKEN)) [
      | inl f ↦ elim (either (numberedb (rows words))) [
        | inl n ↦ (eqb-true _ _ f, numbered_read (rows words) n)
        | inr n ↦ let e = rw (f, n) at h in absurd (omega (arith, e))
      ]
      | inr f ↦ absurd (eqb-false _ _ f (rw f at h))
    ],
    λ h. rw (eq-eqb (row_fault words) TAKEN h.0, numbered_make (rows words) h.1) refl,
  )

  pub refused_exact : (check_table words ≡ TABLE) ↔ ((row_fault words ≡ TAKEN) × (Numbering (rows words) → ⊥))
  unfolding check_table
  refused_exact = (
    λ h. elim (either (eqb (row_fault words) TAKEN)) [
      | inl f ↦ (eqb-true _ _ f, λ n. let e = rw (f, numbered_make (rows words) n) at h in omega (arith, e))
      | inr f ↦ absurd (other_fault words (rw f at h))
    ],
    λ h. rw (eq-eqb (row_fault words) TAKEN h.0, not_so (λ n. h.1 (numbered_read (rows words) n))) refl,
  )

-- A table is turned back into the marks that it came from.
module _ (document : ℕ) (marks : List ℕ) (h : check_marks marks ≡ TAKEN) where
  numbers : Numbering (rows (table_words document marks))
  unfolding table_words
  numbers = record { document = document; marks = marks; taken = h; table = sym (rows_of_words (table_of document marks)) }

  pub table_taken : check_table (table_words document marks) ≡ TAKEN
  unfolding table_words table_of
  table_taken =
      let l = length_words (table_of document marks) in
      let f = few_rows document 1 0 marks in
      (taken_exact (table_words document marks)).1
      ((whole_rows (table_words document marks)).1 (omega (arith, l), omega (arith, l, f, (check_read marks h).0)), numbers)

  pub same_marks : table_marks (table_words document marks) ≡ marks
  unfolding table_marks numbers
  same_marks = tell_marks (rows (table_words document marks)) numbers

  pub same_document : document_of (rows (table_words document marks)) ≡ document
  unfolding numbers
  same_document = tell_document (rows (table_words document marks)) numbers

-- And the marks of a table are numbered into it again.
pub same_table : (table : List ℕ) → check_table table ≡ TAKEN
    → (check_marks (table_marks table) ≡ TAKEN) × (table_of (document_of (rows table)) (table_marks table) ≡ rows table)
    × (table_words (document_of (rows table)) (table_marks table) ≡ table)
unfolding table_marks table_words
same_table table h =
    let t = (taken_exact table).0 h in
    let n = t.1 in
    rw (tell_marks (rows table) n, tell_document (rows table) n, n.table)
    (n.taken, refl, words_of_rows table ((whole_rows table).0 t.0).0)
