-- docs/SCOPE.md, "The printing program": its checks, in their order, and what it prints.
use Rattle.std.specs.Prelude.{ℕ, cond, List, ◌++◌, ltb, eqb, length}
use Rattle.answers.specs.Answer.{TAKEN, LONG}
use Rattle.nodes.specs.Words.{nodes}
use Rattle.answers.specs.Output.{words_in}
use Rattle.answers.specs.Verdict.{refusedb}
use Rattle.lists.specs.Two.{check_two}
use Rattle.tickets.specs.declared.ticket.Order.TheVariants.{Descendant}
use Rattle.tickets.specs.declared.ticket.Relation.TheVariants.{Inside}
use Rattle.tickets.specs.Listing.{Pair, listing}
use Rattle.tickets.specs.Ticket.{asked}
use Rattle.contents.specs.Contents.{MOST_LISTS}
use Rattle.books.specs.Book.{list_at}
use Rattle.books.specs.Find.{verdict_at_up_to}
use Rattle.lines.specs.Line.{pair_line, total_line, refusal_line}

-- The most bytes of the program's input.
abbrev pub MOST_BYTES : ℕ
MOST_BYTES = 61440

-- How many pairs are printed at a time.
abbrev pub PAGE_PAIRS : ℕ
PAGE_PAIRS = 4096

-- The program's answer where a book may have up to `most` lists. It is LONG, then the book's own
-- answer, then ABSENT for fewer than two lists, then the answer on both lists, which may be JOINT.
unfoldable pub printed_answer_up_to : ℕ → List ℕ → ℕ
printed_answer_up_to most book =
    cond (ltb MOST_BYTES (length book)) LONG
    (cond (refusedb (verdict_at_up_to most book 1)) (verdict_at_up_to most book 1).answer
    (check_two (list_at book 0) (list_at book 1)).answer)

-- The full listing of the first list and the second: relation inside, descendant order.
unfoldable pub listing_in : List ℕ → List Pair
listing_in book = listing (asked Inside Descendant) (nodes (list_at book 0)) (nodes (list_at book 1))

-- All that it prints where a book may have up to `most` lists: a line for each pair and then their
-- number, or a refusal's one line.
unfoldable pub printed_up_to : ℕ → List ℕ → List ℕ
printed_up_to most book =
    let answer = printed_answer_up_to most book in
    cond (eqb answer TAKEN) (words_in pair_line (listing_in book) ++ total_line (length (listing_in book))) (refusal_line answer)

-- The answer of the library's own program, and all that it prints.
abbrev pub printed_answer : List ℕ → ℕ
printed_answer book = printed_answer_up_to MOST_LISTS book

abbrev pub printed : List ℕ → List ℕ
printed book = printed_up_to MOST_LISTS book
