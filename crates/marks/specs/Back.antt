-- docs/SCOPE.md, "Marks and tables": how a table is turned back into marks.
use Rattle.std.specs.Prelude.{ℕ, ◌-◌, ◌≡◌, Bool, true, false, cond, ◌&&◌, List, [], ◌∷◌, eqb, replicate, set}
use Rattle.answers.specs.Answer.{TAKEN, TABLE}
use Rattle.nodes.specs.Node.{sameb}
use Rattle.marks.specs.declared.row.Row.{Row}
use Rattle.marks.specs.Mark.{CLOSE, check_marks}
use Rattle.marks.specs.Table.{table_of, rows, row_in, row_fault}

-- The marks with each row's tag at the row's start.
unfoldable pub tagged : List Row → List ℕ → List ℕ
tagged [] marks = marks
tagged (r ∷ rs) marks = tagged rs (set marks (r.node.start - 1) r.tag)

-- The marks that a table tells of: up to the first row's end, each row's tag at its start and a
-- close everywhere else.
unfoldable pub marks_of : List Row → List ℕ
marks_of rs = tagged rs (replicate (row_in rs 0).node.end CLOSE)

-- The document number that a table tells of.
unfoldable pub document_of : List Row → ℕ
document_of rs = (row_in rs 0).node.document

-- Accepted marks and a document number whose table is these rows.
pub record Numbering (rs : List Row) : Type 0 where
  pub document : ℕ
  pub marks : List ℕ
  pub taken : check_marks marks ≡ TAKEN
  pub table : table_of document marks ≡ rs

-- Two rows, and two tables row by row, are the same in every word.
unfoldable pub same_rowb : Row → Row → Bool
same_rowb x y = sameb x.node y.node && eqb x.tag y.tag

unfoldable pub same_rowsb : List Row → List Row → Bool
same_rowsb [] [] = true
same_rowsb [] (y ∷ ys) = false
same_rowsb (x ∷ xs) [] = false
same_rowsb (x ∷ xs) (y ∷ ys) = same_rowb x y && same_rowsb xs ys

-- The marks that a table tells of are accepted and have this table; if not, no accepted marks have
-- it (`Exact: table_exact`).
unfoldable pub numberedb : List Row → Bool
numberedb rs = eqb (check_marks (marks_of rs)) TAKEN && same_rowsb (table_of (document_of rs) (marks_of rs)) rs

-- What is wrong with the words of a table: RAGGED, LONG, then TABLE.
unfoldable pub check_table : List ℕ → ℕ
check_table words = cond (eqb (row_fault words) TAKEN) (cond (numberedb (rows words)) TAKEN TABLE) (row_fault words)
