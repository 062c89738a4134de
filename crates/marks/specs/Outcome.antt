-- docs/SCOPE.md, "Marks and tables": what the three calls answer and write.
use Rattle.std.specs.Prelude.{ℕ, List, map, Result, Ok, Err, eqb, length}
use Rattle.nodes.specs.declared.node.Node.{Node}
use Rattle.laws.specs.Choose.{keep}
use Rattle.nodes.specs.Words.{words_of}
use Rattle.answers.specs.Output.{words_in, answer_of, if_taken, output_of}
use Rattle.answers.specs.declared.verdict.Counted.{Counted}
use Rattle.answers.specs.Answer.{TAKEN}
use Rattle.answers.specs.Refusal.{number_of}
use Rattle.answers.specs.declared.refusal.Refusal.{Refusal}
use Rattle.answers.specs.Verdict.{ANCESTORS, verdict, counted}
use Rattle.marks.specs.declared.unnumber.Marked.{Marked}
use Rattle.marks.specs.declared.unnumber.Unnumbered.{Unnumbered}
use Rattle.marks.specs.declared.row.Row.{Row}
use Rattle.marks.specs.Back.{marks_of, document_of, check_table}
use Rattle.marks.specs.Mark.{check_marks}
use Rattle.marks.specs.Table.{table_of, table_words, rows, row_fault}

-- An answer that carries index 0, and how much was written.
abbrev pub outcome : ℕ → ℕ → Counted
outcome answer count = counted (verdict answer ANCESTORS 0) count

-- A call's answer and how much it wrote, which is nothing on refusal.
unfoldable pub outcome_of : ℕ → List ℕ → List ℕ → ℕ → Counted
outcome_of fault result out count = outcome (answer_of fault result out) (if_taken fault result out count 0)

-- Numbering answers how many rows it wrote.
unfoldable pub number_outcome : ℕ → List ℕ → List ℕ → Counted
number_outcome document marks out = outcome_of (check_marks marks) (table_words document marks) out (length (table_of document marks))

-- Numbering writes the words of the document's table; on refusal the output is as it was.
unfoldable pub number_output : ℕ → List ℕ → List ℕ → List ℕ
number_output document marks out = output_of (check_marks marks) (table_words document marks) out

-- The answer of the way back from a table, with its three fields.
abbrev pub unnumbered : ℕ → ℕ → ℕ → Unnumbered
unnumbered answer document count = record { answer = answer; document = document; count = count }

-- The answer of a way back that returns a refusal, or else what it has written.
abbrev pub unnumbered_in : Result Marked Refusal → Unnumbered
unnumbered_in (Ok marked) = unnumbered TAKEN marked.document marked.count
unnumbered_in (Err refusal) = unnumbered (number_of refusal) 0 0

-- The marks that the words of a table tell of.
unfoldable pub table_marks : List ℕ → List ℕ
table_marks table = marks_of (rows table)

-- The way back answers the document number and how many marks it wrote; both are 0 on refusal.
unfoldable pub unnumber_outcome : List ℕ → List ℕ → Unnumbered
unnumber_outcome table out =
    let fault = check_table table in
    let result = table_marks table in
    unnumbered (answer_of fault result out) (if_taken fault result out (document_of (rows table)) 0) (if_taken fault result out (length result) 0)

-- The way back writes the table's marks; on refusal the output is as it was.
unfoldable pub unnumber_output : List ℕ → List ℕ → List ℕ
unnumber_output table out = output_of (check_table table) (table_marks table) out

-- The nodes of the rows with a tag, in row order.
unfoldable pub nodes_with : ℕ → List Row → List Node
nodes_with tag rs = map (λ r. r.node) (keep (λ r. eqb r.tag tag) rs)

-- The words of those nodes: the first four of each row with the tag.
unfoldable pub picked_words : ℕ → List ℕ → List ℕ
picked_words tag table = words_in words_of (nodes_with tag (rows table))

-- Picking answers how many nodes it wrote; it checks the words of the table and no row.
unfoldable pub pick_outcome : List ℕ → ℕ → List ℕ → Counted
pick_outcome table tag out = outcome_of (row_fault table) (picked_words tag table) out (length (nodes_with tag (rows table)))

-- Picking writes those words; on refusal the output is as it was.
unfoldable pub pick_output : List ℕ → ℕ → List ℕ → List ℕ
pick_output table tag out = output_of (row_fault table) (picked_words tag table) out
