-- docs/SCOPE.md, "Marks and tables": the rows of a document's nodes, in start order, and the words
-- of a table.
use Rattle.std.specs.Prelude.{ℕ, ◌+◌, ◌-◌, ◌%◌, ◌/◌, ◌≤◌, ◌<◌, ◌≡◌, cond, not, ◌&&◌, List, [], ◌∷◌, ◌++◌, ltb, eqb, length, get_or}
use Rattle.nodes.specs.declared.node.Node.{Node}
use Rattle.answers.specs.Answer.{TAKEN, RAGGED, LONG}
use Rattle.nodes.specs.Words.{MOST_NODES, node, words_of}
use Rattle.answers.specs.Output.{words_in}
use Rattle.marks.specs.declared.row.Row.{Row}
use Rattle.marks.specs.Mark.{CLOSE, TEXT, closeb, textb, open_after}

-- A row of a node and its tag.
abbrev pub row : Node → ℕ → Row
row n tag = record { node = n; tag = tag }

-- The position of an element's close among the marks from a position on, where `inner` elements
-- inside it are open; where no mark closes it, the position after the last.
unfoldable pub close_at : ℕ → ℕ → List ℕ → ℕ
close_at inner position [] = position
close_at inner position (mark ∷ marks) =
    cond (closeb mark && eqb inner 0) position (close_at (open_after inner mark) (position + 1) marks)

-- Where the node ends that a mark at a position begins: a text at that position, and an element at
-- its close among the marks that follow.
unfoldable pub end_of : ℕ → ℕ → List ℕ → ℕ
end_of position mark marks = cond (textb mark) position (close_at 0 (position + 1) marks)

-- The rows of the nodes that begin from a position on, where `depth` elements are open; a node's
-- level is one more than elements are open before it.
unfoldable pub rows_from : ℕ → ℕ → ℕ → List ℕ → List Row
rows_from document position depth [] = []
rows_from document position depth (mark ∷ marks) =
    let later = rows_from document (position + 1) (open_after depth mark) marks in
    cond (closeb mark) later (row (node document position (end_of position mark marks) (depth + 1)) mark ∷ later)

-- The table of a document; its first mark has position 1.
unfoldable pub table_of : ℕ → List ℕ → List Row
table_of document marks = rows_from document 1 0 marks

-- A mark is the one at a position, among the marks that begin at the position `from`; there is such
-- a mark, so the default of `get_or` is never read.
pub record MarkAt (from : ℕ) (marks : List ℕ) (position mark : ℕ) : Type 0 where
  pub reached : from ≤ position
  pub present : position < from + length marks
  pub read : get_or marks (position - from) 0 ≡ mark

-- A row stands where its marks do, among the marks that begin at the position `from`. Its tag is
-- the mark at its start and not a close. A text ends where it starts, and an element ends at a
-- close after its start.
pub record Marked (from : ℕ) (marks : List ℕ) (r : Row) : Type 0 where
  pub tag_at : MarkAt from marks r.node.start r.tag
  pub no_close : r.tag ≡ CLOSE → ⊥
  pub one_position : r.tag ≡ TEXT → r.node.end ≡ r.node.start
  pub closed_after : (r.tag ≡ TEXT → ⊥) → r.node.start < r.node.end
  pub closed_at : (r.tag ≡ TEXT → ⊥) → MarkAt from marks r.node.end CLOSE

-- How many words a row takes: a node's four and the tag.
abbrev pub ROW_WORDS : ℕ
ROW_WORDS = 5

-- A row's five words.
unfoldable pub row_words : Row → List ℕ
row_words r = words_of r.node ++ (r.tag ∷ [])

-- The words of a document's table.
unfoldable pub table_words : ℕ → List ℕ → List ℕ
table_words document marks = words_in row_words (table_of document marks)

-- The rows of the words; words at the end that make no whole row are left out.
unfoldable pub rows : List ℕ → List Row
rows [] = []
rows (d ∷ []) = []
rows (d ∷ s ∷ []) = []
rows (d ∷ s ∷ e ∷ []) = []
rows (d ∷ s ∷ e ∷ l ∷ []) = []
rows (d ∷ s ∷ e ∷ l ∷ t ∷ words) = row (node d s e l) t ∷ rows words

-- The row at an index, or zeros where there is none.
unfoldable pub row_in : List Row → ℕ → Row
row_in rs index = get_or rs index (row (node 0 0 0 0) 0)

-- What is wrong with the words of a table, whatever the rows are: they don't make whole rows, or
-- there are more than 4,096.
unfoldable pub row_fault : List ℕ → ℕ
row_fault words = cond (not (eqb (length words % ROW_WORDS) 0)) RAGGED (cond (ltb MOST_NODES (length words / ROW_WORDS)) LONG TAKEN)
