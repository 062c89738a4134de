-- One listing followed from C: each call takes the six words that the last one returned.
use Rattle.std.specs.Prelude.{List, [], ◌∷◌, ◌++◌, take}
use Rattle.nodes.specs.Words.{nodes}
use Rattle.tickets.specs.Listing.{Pair}
use Rattle.tickets.specs.PairWords.{pairs_in}
use Rattle.pairs.specs.Calls.{Call, answer, output}
use Rattle.ticket_words.specs.declared.page.PageWords.{PageWords}
use Rattle.ticket_words.specs.declared.words.TicketWords.{TicketWords}
use Rattle.ticket_words.specs.Page.{shown_page}
use Rattle.ticket_words.specs.Words.{ticket_of}

-- What a call with six words answers.
abbrev pub answer_to_c : TicketWords → Call → PageWords
answer_to_c w c = shown_page w (answer (ticket_of w) c)

-- The pairs that C reads: the first of the output on return, as many as the answer counts.
abbrev pub read_by_c : TicketWords → Call → List Pair
read_by_c w c = take (answer_to_c w c).count (pairs_in (nodes (output (ticket_of w) c)))

-- The words after a sequence of calls.
unfoldable pub words_through : TicketWords → List Call → TicketWords
words_through w [] = w
words_through w (c ∷ cs) = words_through (answer_to_c w c).ticket cs

-- All pairs that C reads through a sequence of calls, in the order in which they came.
unfoldable pub read_through : TicketWords → List Call → List Pair
read_through w [] = []
read_through w (c ∷ cs) = read_by_c w c ++ read_through (answer_to_c w c).ticket cs
