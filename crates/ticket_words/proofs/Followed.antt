-- Why it holds: The words that come back stand for the ticket that the library returns, so each
-- next call from C is the library's next call.
-- What would break it: Words that stood for another ticket after any page, or that a refusal
-- altered, would be caught here.
use mathlib.Core.Path.{◌≡◌, refl, ap, ◌∙◌}
use mathlib.Core.List.{List, [], ◌∷◌, ◌++◌}
use borrow.Author.Tests.{ne_eqb}
use Rattle.answers.specs.Answer.{TAKEN}
use Rattle.answers.specs.Verdict.{refusedb}
use Rattle.lists.specs.Two.{check_two}
use Rattle.tickets.specs.declared.ticket.Ticket.{Ticket}
use Rattle.tickets.specs.Listing.{key_of}
use Rattle.pairs.specs.Calls.{Call, answer, ticket_through, shown_through}
use Rattle.pairs.specs.Page.{handed_out, ticket_after, page_of}
use Rattle.ticket_words.specs.declared.words.TicketWords.{TicketWords}
use Rattle.ticket_words.specs.Following.{answer_to_c, read_by_c, words_through, read_through}
use Rattle.ticket_words.specs.Page.{shown_page}
use Rattle.ticket_words.specs.Words.{order_of, ticket_of, ticket_back}
use Rattle.ticket_words.proofs.Reached.{back}

-- One call: the words that it returns stand for the ticket that the library returns.
pub one_call : (w : TicketWords) (c : Call) → ticket_of (answer_to_c w c).ticket ≡ (answer (ticket_of w) c).ticket
unfolding shown_page page_of ticket_after ticket_of
one_call w c = back (key_of (order_of w.order)) w (handed_out c.ancestors c.descendants (ticket_of w) c.out)

-- Any sequence of calls from any six words ends with words that stand for the ticket with which the
-- library's own following ends.
pub same_ticket : (w : TicketWords) (cs : List Call) → ticket_of (words_through w cs) ≡ ticket_through (ticket_of w) cs
unfolding words_through ticket_through
same_ticket w [] = refl
same_ticket w (c ∷ cs) = same_ticket (answer_to_c w c).ticket cs ∙ ap (λ (t : Ticket). ticket_through t cs) (one_call w c)

-- And C reads the pairs that the library's own following shows.
pub same_pairs : (w : TicketWords) (cs : List Call) → read_through w cs ≡ shown_through (ticket_of w) cs
unfolding read_through shown_through shown_page
same_pairs w [] = refl
same_pairs w (c ∷ cs) =
    ap (λ ps. read_by_c w c ++ ps)
    (same_pairs (answer_to_c w c).ticket cs ∙ ap (λ (t : Ticket). shown_through t cs) (one_call w c))

-- The next call after them answers with the verdict, the count and done of the library's next call.
pub same_answer : (w : TicketWords) (cs : List Call) (c : Call)
    → answer_to_c (words_through w cs) c ≡ shown_page (words_through w cs) (answer (ticket_through (ticket_of w) cs) c)
same_answer w cs c = ap (λ (t : Ticket). shown_page (words_through w cs) (answer t c)) (same_ticket w cs)

-- A refusal returns the six words as they were, whatever they are.
pub refusal_keeps_words : (w : TicketWords) (c : Call) → ((answer_to_c w c).verdict.answer ≡ TAKEN → ⊥) → (answer_to_c w c).ticket ≡ w
unfolding shown_page page_of handed_out ticket_back refusedb
refusal_keeps_words w c h = rw (ne_eqb (check_two c.ancestors c.descendants).answer TAKEN h)
