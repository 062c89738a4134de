-- docs/SCOPE.md, "Marks and tables": what a mark does, and the checks on marks.
use Rattle.std.specs.Prelude.{ℕ, ◌+◌, ◌-◌, Bool, cond, not, ◌&&◌, ◌||◌, List, [], ◌∷◌, ltb, eqb, length}
use Rattle.answers.specs.Answer.{TAKEN, LONG, MARK, STRAY, DEEP, UNCLOSED}
use Rattle.nodes.specs.Node.{MOST_LEVELS}
use Rattle.nodes.specs.Words.{MOST_NODES}

-- The mark that closes an element, and the mark that is a text; each number between them opens an
-- element of that tag.
abbrev pub CLOSE : ℕ
CLOSE = 0

abbrev pub TEXT : ℕ
TEXT = 65536

-- A mark is a close.
abbrev pub closeb : ℕ → Bool
closeb mark = eqb mark CLOSE

-- A mark is a text.
abbrev pub textb : ℕ → Bool
textb mark = eqb mark TEXT

-- How many elements are open after a mark, if `depth` are open before it.
unfoldable pub open_after : ℕ → ℕ → ℕ
open_after depth mark = cond (closeb mark) (depth - 1) (cond (textb mark) depth (depth + 1))

-- STRAY: the mark closes, or is a text, while no element is open; or it opens one although the root
-- has closed. Then nothing is open, and the position isn't the first.
unfoldable pub strayb : ℕ → ℕ → ℕ → Bool
strayb position depth mark = eqb depth 0 && ((closeb mark || textb mark) || ltb 1 position)

-- DEEP: the mark opens an element, or is a text, that would have level 65; its level is one more
-- than `depth`, the number of elements open.
unfoldable pub deepb : ℕ → ℕ → Bool
deepb depth mark = not (closeb mark) && ltb MOST_LEVELS (depth + 1)

-- What is wrong with the mark at a position, if `depth` elements are open before it: MARK, a mark
-- above 65,536, then STRAY, then DEEP.
unfoldable pub mark_fault : ℕ → ℕ → ℕ → ℕ
mark_fault position depth mark =
    cond (ltb TEXT mark) MARK
    (cond (strayb position depth mark) STRAY
    (cond (deepb depth mark) DEEP TAKEN))

-- UNCLOSED: the marks end with an element open; or there are none, and the next position is still
-- the first.
unfoldable pub unclosedb : ℕ → ℕ → Bool
unclosedb position depth = ltb 0 depth || eqb position 1

-- What is wrong with the marks from a position on, where `depth` elements are open: the first
-- faulty mark, then UNCLOSED.
unfoldable pub fault_from : ℕ → ℕ → List ℕ → ℕ
fault_from position depth [] = cond (unclosedb position depth) UNCLOSED TAKEN
fault_from position depth (mark ∷ marks) =
    cond (eqb (mark_fault position depth mark) TAKEN) (fault_from (position + 1) (open_after depth mark) marks) (mark_fault position depth mark)

-- What is wrong with a list of marks: LONG, then the first faulty mark, then UNCLOSED; the first
-- mark has position 1.
unfoldable pub check_marks : List ℕ → ℕ
check_marks marks = cond (ltb MOST_NODES (length marks)) LONG (fault_from 1 0 marks)
