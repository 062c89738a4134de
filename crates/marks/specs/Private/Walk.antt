-- Words of the contracts of private functions: how the marks are walked, forwards to check them,
-- and backwards, where each close is met before its opening. No public contract cites this file.
use Rattle.std.specs.Prelude.{ℕ, zero, suc, ◌+◌, ◌-◌, ◌*◌, ◌<◌, ◌≡◌, Bool, true, false, cond, not, ◌&&◌, ◌||◌, List, [], ◌∷◌, Option, Some, None, Result, Ok, Err, ltb, eqb, length, get_or, set, replicate}
use Rattle.std.proofs.lemmas.List.Edits.{sets}
use Rattle.answers.specs.Answer.{TAKEN, UNCLOSED}
use Rattle.answers.specs.Refusal.{number_of}
use Rattle.answers.specs.declared.refusal.Refusal.{Refusal}
use Rattle.laws.specs.Choose.{keep}
use Rattle.nodes.specs.Node.{MOST_LEVELS}
use Rattle.nodes.specs.Words.{node}
use Rattle.marks.specs.declared.mark.MarkPlace.{MarkPlace}
use Rattle.marks.specs.declared.row.Row.{Row}
use Rattle.marks.specs.Back.{same_rowb}
use Rattle.marks.specs.Mark.{CLOSE, closeb, textb, open_after, mark_fault, unclosedb}
use Rattle.marks.specs.Table.{ROW_WORDS, row, row_words, close_at, row_in}

-- A place with its two numbers: elements open, and rows begun before it.
abbrev pub mark_place : ℕ → ℕ → MarkPlace
mark_place depth rows = record { depth = depth; rows = rows }

-- How many rows the marks make: one for each that isn't a close.
unfoldable pub row_count : List ℕ → ℕ
row_count marks = length (keep (λ m. not (closeb m)) marks)

-- The place after a mark.
unfoldable pub after_mark : MarkPlace → ℕ → MarkPlace
after_mark p mark = mark_place (open_after p.depth mark) (cond (closeb mark) p.rows (p.rows + 1))

-- What a step or a walk answers: the place that it reached, or the number of its refusal.
abbrev pub Step : Type 0
Step = Result MarkPlace ℕ

-- The same, of the code's answer.
abbrev pub numbered : Result MarkPlace Refusal → Step
numbered (Ok place) = Ok place
numbered (Err refusal) = Err (number_of refusal)

-- A step past the mark at a position: the place after it, or what is wrong with it.
unfoldable pub passed : ℕ → MarkPlace → ℕ → Step
passed position p mark =
    cond (eqb (mark_fault position p.depth mark) TAKEN) (Ok (after_mark p mark)) (Err (mark_fault position p.depth mark))

-- The answer of a walk along the marks from a position on: the place at their end, or the first
-- refusal.
unfoldable pub walked : ℕ → MarkPlace → List ℕ → Step
walked position p [] = cond (unclosedb position p.depth) (Err UNCLOSED) (Ok p)
walked position p (mark ∷ marks) =
    cond (eqb (mark_fault position p.depth mark) TAKEN) (walked (position + 1) (after_mark p mark) marks)
    (Err (mark_fault position p.depth mark))

-- How many elements are open before a mark, if `depth` are open after it.
unfoldable pub open_before : ℕ → ℕ → ℕ
open_before depth mark = cond (closeb mark) (depth + 1) (cond (textb mark) depth (depth - 1))

-- The place before a mark; its `rows` are those that begin before the mark.
unfoldable pub before_mark : MarkPlace → ℕ → MarkPlace
before_mark p mark = mark_place (open_before p.depth mark) (cond (closeb mark) p.rows (p.rows - 1))

-- The closes kept before a mark at a position: a close is added after those of the elements around
-- it, and any other mark changes nothing.
unfoldable pub closes_before : List ℕ → ℕ → ℕ → ℕ → List ℕ
closes_before closes position depth mark = cond (closeb mark) (set closes depth position) closes

-- The closes kept are those of the elements that are open at a position, among the marks from there
-- on; the innermost's is the last.
abbrev pub Kept : List ℕ → ℕ → ℕ → List ℕ → Type 0
Kept closes position depth marks = (inner : ℕ) → inner < depth → get_or closes (depth - 1 - inner) 0 ≡ close_at inner position marks

-- The row of the node that a mark begins at a position, if `depth` elements are open after the
-- mark.
unfoldable pub row_here : ℕ → ℕ → List ℕ → ℕ → ℕ → Row
row_here document position closes depth mark =
    row (node document position (cond (textb mark) position (get_or closes (depth - 1) 0)) (open_before depth mark + 1)) mark

-- The output with that row stored at index `rows - 1`, or as it is where the mark is a close.
unfoldable pub output_before : ℕ → ℕ → List ℕ → MarkPlace → ℕ → List ℕ → List ℕ
output_before document position closes p mark out =
    cond (closeb mark) out (sets out (ROW_WORDS * (p.rows - 1)) (row_words (row_here document position closes p.depth mark)))

-- The mark at a position, as the last of the rows left tells: its tag if it starts there, else a
-- close.
unfoldable pub mark_here : List Row → ℕ → ℕ → ℕ
mark_here rs count position =
    cond (ltb 0 count && eqb (row_in rs (count - 1)).node.start position) (row_in rs (count - 1)).tag CLOSE

-- A mark fits: a close has room to be kept, and any other mark is in its place and has the last of
-- the rows left as its row.
unfoldable pub fitsb : List Row → ℕ → ℕ → List ℕ → MarkPlace → ℕ → Bool
fitsb rs document position closes p mark =
    cond (closeb mark) (ltb p.depth MOST_LEVELS)
    ((textb mark || ltb 0 p.depth) && (eqb (mark_fault position (open_before p.depth mark) mark) TAKEN
    && same_rowb (row_here document position closes p.depth mark) (row_in rs (p.rows - 1))))

-- What a step back from a position says, with the closes kept on return: the mark there fits and
-- the place before it is reached, or the mark doesn't fit.
abbrev pub SteppedBack : List Row → ℕ → ℕ → List ℕ → MarkPlace → Option MarkPlace → List ℕ → Type 0
SteppedBack rs document position closes p (Some q) kept =
    let mark = mark_here rs p.rows position in
    (fitsb rs document position closes p mark ≡ true) × (q ≡ before_mark p mark) × (kept ≡ closes_before closes position p.depth mark)
SteppedBack rs document position closes p None kept = fitsb rs document position closes p (mark_here rs p.rows position) ≡ false

-- The rows left are those of marks from the first up to a position.
unfoldable pub reads_back : List Row → ℕ → ℕ → List ℕ → MarkPlace → Bool
reads_back rs document zero closes p = eqb p.depth 0 && eqb p.rows 0
reads_back rs document (suc before) closes p =
    let mark = mark_here rs p.rows (suc before) in
    fitsb rs document (suc before) closes p mark
    && reads_back rs document before (closes_before closes (suc before) p.depth mark) (before_mark p mark)

-- All rows are those of marks up to a last position.
unfoldable pub all_read_back : List Row → ℕ → ℕ → Bool
all_read_back rs document last = reads_back rs document last (replicate MOST_LEVELS 0) (mark_place 0 (length rs))
