-- Why it holds: The words that come back stand for the ticket that the library returns, whether the
-- call was lent links or not. So each next call from C is the library's next call.
-- What would break it: Words that stood for another ticket after any page, or that a refusal
-- altered, would be caught here.
use mathlib.Core.Path.{◌≡◌, refl, sym, ap, ◌∙◌}
use mathlib.Core.List.{List, [], ◌∷◌, ◌++◌}
use Rattle.tickets.specs.declared.ticket.Ticket.{Ticket}
use Rattle.ticket_words.specs.declared.words.TicketWords.{TicketWords}
use Rattle.ticket_words.specs.Following.{answer_to_c}
use Rattle.ticket_words.specs.Page.{shown_page}
use Rattle.ticket_words.specs.Words.{ticket_of, ticket_back}
use Rattle.ticket_words.proofs.Followed.{one_call}
use Rattle.linked.specs.Following.{LentCall, AcceptedLent, answer_lent, ticket_through_lent, shown_through_lent, answer_lent_to_c, read_lent_by_c, words_through_lent, read_through_lent}
use Rattle.linked.proofs.Mixed.{plain_of, same, refusal_lent}

-- One call: the words that it returns are those of the plain call that does the same,
same_words : (w : TicketWords) (k : LentCall) → (answer_lent_to_c w k).ticket ≡ (answer_to_c w (plain_of k)).ticket
unfolding shown_page
same_words w k =
    let s = same (ticket_of w) k in
    λ i. ticket_back w (s.count i) (s.ticket i).place

-- so they stand for the ticket that the library returns.
one_lent_call : (w : TicketWords) (k : LentCall) → ticket_of (answer_lent_to_c w k).ticket ≡ (answer_lent (ticket_of w) k).ticket
one_lent_call w k = ap ticket_of (same_words w k) ∙ one_call w (plain_of k) ∙ sym (same (ticket_of w) k).ticket

-- Any sequence of calls from any six words ends with words that stand for the ticket with which the
-- library's own following ends.
pub same_ticket_from_c : (w : TicketWords) (ks : List LentCall) → ticket_of (words_through_lent w ks) ≡ ticket_through_lent (ticket_of w) ks
unfolding words_through_lent ticket_through_lent
same_ticket_from_c w [] = refl
same_ticket_from_c w (k ∷ ks) =
    same_ticket_from_c (answer_lent_to_c w k).ticket ks ∙ ap (λ (t : Ticket). ticket_through_lent t ks) (one_lent_call w k)

-- And C reads the pairs that the library's own following shows.
pub same_pairs_from_c : (w : TicketWords) (ks : List LentCall) → read_through_lent w ks ≡ shown_through_lent (ticket_of w) ks
unfolding read_through_lent shown_through_lent shown_page
same_pairs_from_c w [] = refl
same_pairs_from_c w (k ∷ ks) =
    ap (λ ps. read_lent_by_c w k ++ ps)
    (same_pairs_from_c (answer_lent_to_c w k).ticket ks ∙ ap (λ (t : Ticket). shown_through_lent t ks) (one_lent_call w k))

-- The next call after them answers with the verdict, the count and done of the library's next call.
pub same_answer_from_c : (w : TicketWords) (ks : List LentCall) (k : LentCall)
    → answer_lent_to_c (words_through_lent w ks) k ≡ shown_page (words_through_lent w ks) (answer_lent (ticket_through_lent (ticket_of w) ks) k)
same_answer_from_c w ks k = ap (λ (t : Ticket). shown_page (words_through_lent w ks) (answer_lent t k)) (same_ticket_from_c w ks)

-- A refusal returns the six words as they were, whatever they are.
pub refusal_keeps_words_lent : (w : TicketWords) (k : LentCall) → (AcceptedLent k → ⊥) → (answer_lent_to_c w k).ticket ≡ w
unfolding shown_page ticket_back
refusal_keeps_words_lent w k f = rw (refusal_lent (ticket_of w) k f).0
