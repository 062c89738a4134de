-- One listing followed through calls of which some are lent links and others aren't, as its caller
-- sees it: by the answers, and by the outputs on return.
use Rattle.std.specs.Prelude.{ℕ, ◌≡◌, List, [], ◌∷◌, ◌++◌, take}
use Rattle.nodes.specs.Words.{nodes}
use Rattle.forest.specs.Linked.{links_in}
use Rattle.tickets.specs.declared.ticket.Ticket.{Ticket}
use Rattle.tickets.specs.Listing.{Pair}
use Rattle.tickets.specs.PairWords.{pairs_in}
use Rattle.pairs.specs.declared.page.Page.{Page}
use Rattle.pairs.specs.Calls.{Call, AcceptedCall, answer, output}
use Rattle.ticket_words.specs.declared.page.PageWords.{PageWords}
use Rattle.ticket_words.specs.declared.words.TicketWords.{TicketWords}
use Rattle.ticket_words.specs.Page.{shown_page}
use Rattle.ticket_words.specs.Words.{ticket_of}
use Rattle.linked.specs.Page.{linked_page, linked_output}

-- What a page call is lent as links: nothing, where it is the plain call, or some words.
pub data Lent : Type 0 where
  nothing : Lent
  words : List ℕ → Lent

-- A page call, plain or with links.
pub record LentCall : Type 0 where
  pub call : Call
  pub links : Lent

-- Links that are lent must be those of the ancestors.
unfoldable pub FitFor : Lent → Call → Type 0
FitFor nothing c = Unit {0}
FitFor (words links) c = links ≡ links_in c.ancestors

-- The call isn't refused: its two lists are accepted together, and links that it is lent are those
-- of the ancestors.
abbrev pub AcceptedLent : LentCall → Type 0
AcceptedLent k = AcceptedCall k.call × FitFor k.links k.call

-- The answer of a call, by what it is lent as links.
unfoldable pub answer_with : Lent → Ticket → Call → Page
answer_with nothing t c = answer t c
answer_with (words links) t c = linked_page c.ancestors c.descendants links t c.out

-- The output of a call on return.
unfoldable pub output_with : Lent → Ticket → Call → List ℕ
output_with nothing t c = output t c
output_with (words links) t c = linked_output c.ancestors c.descendants links t c.out

abbrev pub answer_lent : Ticket → LentCall → Page
answer_lent t k = answer_with k.links t k.call

abbrev pub output_lent : Ticket → LentCall → List ℕ
output_lent t k = output_with k.links t k.call

-- The pairs that a call hands out: the first of its output, as many as it counts.
abbrev pub shown_lent : Ticket → LentCall → List Pair
shown_lent t k = take (answer_lent t k).count (pairs_in (nodes (output_lent t k)))

-- The ticket after a sequence of calls, each of which takes the ticket that the last one returned.
unfoldable pub ticket_through_lent : Ticket → List LentCall → Ticket
ticket_through_lent t [] = t
ticket_through_lent t (k ∷ ks) = ticket_through_lent (answer_lent t k).ticket ks

-- All pairs that a sequence of calls hands out, in the order in which they came.
unfoldable pub shown_through_lent : Ticket → List LentCall → List Pair
shown_through_lent t [] = []
shown_through_lent t (k ∷ ks) = shown_lent t k ++ shown_through_lent (answer_lent t k).ticket ks

-- The same from C, where each call takes the six words that the last one returned.
abbrev pub answer_lent_to_c : TicketWords → LentCall → PageWords
answer_lent_to_c w k = shown_page w (answer_lent (ticket_of w) k)

-- The pairs that C reads: the first of the output on return, as many as the answer counts.
abbrev pub read_lent_by_c : TicketWords → LentCall → List Pair
read_lent_by_c w k = take (answer_lent_to_c w k).count (pairs_in (nodes (output_lent (ticket_of w) k)))

-- The words after a sequence of calls.
unfoldable pub words_through_lent : TicketWords → List LentCall → TicketWords
words_through_lent w [] = w
words_through_lent w (k ∷ ks) = words_through_lent (answer_lent_to_c w k).ticket ks

-- All pairs that C reads through a sequence of calls, in the order in which they came.
unfoldable pub read_through_lent : TicketWords → List LentCall → List Pair
read_through_lent w [] = []
read_through_lent w (k ∷ ks) = read_lent_by_c w k ++ read_through_lent (answer_lent_to_c w k).ticket ks
