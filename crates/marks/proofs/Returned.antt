-- Why it holds: With room for it, numbering writes a table. The way back writes the marks that the
-- table came from. So either call returns what the other was given.
-- What would break it: A count, a document or a word that did not come back would be caught here.
use mathlib.Core.Path.{◌≡◌, ◌∙◌, sym}
use mathlib.Core.List.{List}
use Prim.Native.Nat.{ℕ, ◌≤◌}
use lib.ListN.{length}
use Rattle.answers.specs.Answer.{TAKEN}
use Rattle.answers.specs.Output.{written, output_of}
use Rattle.answers.proofs.OutputLaws.{answer_taken, if_taken_lem}
use Rattle.marks.specs.Back.{document_of, check_table}
use Rattle.marks.specs.Mark.{check_marks}
use Rattle.marks.specs.Outcome.{outcome, number_outcome, number_output, unnumbered, table_marks, unnumber_outcome, unnumber_output}
use Rattle.marks.specs.Table.{table_of, table_words, rows}
use Rattle.marks.proofs.Outcomes.{all_written}
use Rattle.marks.proofs.Exact.{table_taken, same_marks, same_document, same_table}

-- What numbering and the way back answer and write if they are taken and have room.
pub number_taken : (document : ℕ) (marks out : List ℕ) → check_marks marks ≡ TAKEN → length (table_words document marks) ≤ length out
    → (number_outcome document marks out ≡ outcome TAKEN (length (table_of document marks)))
    × (number_output document marks out ≡ written (table_words document marks) out)
unfolding number_outcome number_output
number_taken document marks out h l =
    let a = answer_taken (check_marks marks) (table_words document marks) out h l in
    let w = all_written (check_marks marks) (table_words document marks) out (length (table_of document marks)) a in
    (sym w.0, sym w.1)

pub unnumber_taken : (table out : List ℕ) → check_table table ≡ TAKEN → length (table_marks table) ≤ length out
    → (unnumber_outcome table out ≡ unnumbered TAKEN (document_of (rows table)) (length (table_marks table)))
    × (unnumber_output table out ≡ written (table_marks table) out)
unfolding unnumber_outcome unnumber_output output_of
unnumber_taken table out h l =
    let f = check_table table in
    let m = table_marks table in
    let a = answer_taken f m out h l in (
      λ t. unnumbered (a t) (if_taken_lem f m out (document_of (rows table)) 0 a t) (if_taken_lem f m out (length m) 0 a t),
      if_taken_lem f m out (written m out) out a,
    )

-- What numbering wrote is turned back into the marks and the document that it was given.
pub marks_return : (document : ℕ) (marks out : List ℕ) → check_marks marks ≡ TAKEN → length marks ≤ length out
    → (unnumber_outcome (table_words document marks) out ≡ unnumbered TAKEN document (length marks))
    × (unnumber_output (table_words document marks) out ≡ written marks out)
marks_return document marks out h l =
    let m = same_marks document marks h in
    let d = same_document document marks h in
    let r = unnumber_taken (table_words document marks) out (table_taken document marks h) (rw m l) in
    (r.0 ∙ (λ t. unnumbered TAKEN (d t) (length (m t))), r.1 ∙ (λ t. written (m t) out))

-- What the way back wrote is numbered into the table that it was given.
pub table_returns : (table out : List ℕ) → check_table table ≡ TAKEN → length table ≤ length out
    → (number_outcome (document_of (rows table)) (table_marks table) out ≡ outcome TAKEN (length (rows table)))
    × (number_output (document_of (rows table)) (table_marks table) out ≡ written table out)
table_returns table out h l =
    let s = same_table table h in
    let r = number_taken (document_of (rows table)) (table_marks table) out s.0 (rw s.2 l) in
    (r.0 ∙ (λ t. outcome TAKEN (length (s.1 t))), r.1 ∙ (λ t. written (s.2 t) out))
