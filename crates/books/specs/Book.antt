-- docs/SCOPE.md, "The field book": its bodies, and the answer for a book.
use Rattle.std.specs.Prelude.{ℕ, suc, ◌*◌, cond, List, [], ◌∷◌, Result, Ok, Err, map, eqb, length}
use Rattle.nodes.specs.declared.node.Node.{Node}
use Rattle.answers.specs.Answer.{TAKEN}
use Rattle.nodes.specs.Words.{nodes}
use Rattle.numbers.specs.Little.{NODE_BYTES, numbers}
use Rattle.numbers.specs.Part.{part_of, place_in}
use Rattle.contents.specs.declared.entry.Entry.{Entry}
use Rattle.contents.specs.Contents.{MOST_LISTS, lists_in, contents_of, contents_fault_up_to, entry_at}
use Rattle.answers.specs.declared.refusal.Fault.{Fault}
use Rattle.answers.specs.declared.verdict.Verdict.{Verdict}
use Rattle.lists.specs.Check.{check_nodes}
use Rattle.answers.specs.Refusal.{verdict_of}
use Rattle.answers.specs.Verdict.{refusedb, in_list, ANCESTORS, verdict, taken}
use Rattle.books.specs.declared.book.Opened.{Opened}

-- The body that an entry names, as a part of the book.
unfoldable pub body_of : List ℕ → Entry → List ℕ
body_of book e = part_of book e.offset (NODE_BYTES * e.count)

-- Where that body lies, given where the book begins.
unfoldable pub body_place : ℕ × ℕ → List ℕ → Entry → ℕ × ℕ
body_place start book e = place_in start (length book) e.offset

-- The words of the list at a position of the book, the first list having position 0.
unfoldable pub list_at : List ℕ → ℕ → List ℕ
list_at book position = numbers (body_of book (entry_at book position))

-- The nodes of the body that an entry names.
unfoldable pub nodes_of : List ℕ → Entry → List Node
nodes_of book e = nodes (numbers (body_of book e))

-- The verdict on the bodies in their order, the first of them with the number `list`: the first
-- fault, with that list's number and the node's index, or TAKEN.
unfoldable pub check_bodies : ℕ → List (List Node) → Verdict
check_bodies list [] = taken
check_bodies list (ns ∷ later) = cond (refusedb (check_nodes ns)) (in_list list (check_nodes ns)) (check_bodies (suc list) later)

-- The verdict on a book's parts: first `fault`, which belongs to no list, then the bodies.
unfoldable pub check_parts : ℕ → List (List Node) → Verdict
check_parts fault bodies = cond (eqb fault TAKEN) (check_bodies 0 bodies) (verdict fault ANCESTORS 0)

-- The verdict on a book where a book may have up to `most` lists: first the contents, then the
-- bodies in their order.
unfoldable pub book_verdict_up_to : ℕ → List ℕ → Verdict
book_verdict_up_to most book = check_parts (contents_fault_up_to most book) (map (nodes_of book) (contents_of book))

-- The library's own verdict.
abbrev pub book_verdict : List ℕ → Verdict
book_verdict book = book_verdict_up_to MOST_LISTS book

-- What opening a book answers: the verdict, and the number of its lists, 0 when it is refused.
abbrev pub opened : Verdict → ℕ → Opened
opened v lists = record { verdict = v; lists = lists }

-- The same for a check that returns the number of lists, or a fault.
abbrev pub opened_in : Result ℕ Fault → Opened
opened_in (Ok lists) = opened taken lists
opened_in (Err f) = opened (verdict_of f) 0

-- What opening these bytes answers where a book may have up to `most` lists.
unfoldable pub check_book_up_to : ℕ → List ℕ → Opened
check_book_up_to most book = opened (book_verdict_up_to most book) (cond (refusedb (book_verdict_up_to most book)) 0 (lists_in book))

-- What the library answers.
abbrev pub check_book : List ℕ → Opened
check_book book = check_book_up_to MOST_LISTS book
