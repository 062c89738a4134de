-- Why it holds: Each public contract equates the answer with a definition, and two things that
-- equal a third are equal. So no second answer satisfies it.
-- What would break it: A contract that left a field of the answer or a word of the output open
-- would be caught here.
use mathlib.Core.Path.{◌≡◌}
use Rattle.laws.proofs.Only.{only}
use Rattle.ticket_words.proofs.page.list_page.Reads as list-page
use Rattle.ticket_words.proofs.page.shown_page.Reads as shown-page
use Rattle.ticket_words.proofs.words.ticket_back.Reads as ticket-back
use Rattle.ticket_words.proofs.words.PlaceFromTicketWords.from.Reads as place-from
use Rattle.ticket_words.proofs.words.TicketFromTicketWords.from.Reads as ticket-from

pub place_of_only : (κs : _) (a : _) (r r' : _) (s s' : _) → place-from.Post κs a r s → place-from.Post κs a r' s' → r ≡ r'
place_of_only κs a r r' s s' p q = only p q

pub ticket_of_only : (κs : _) (a : _) (r r' : _) (s s' : _) → ticket-from.Post κs a r s → ticket-from.Post κs a r' s' → r ≡ r'
ticket_of_only κs a r r' s s' p q = only p q

pub ticket_back_only : (κs : _) (a : _) (r r' : _) (s s' : _) → ticket-back.Post κs a r s → ticket-back.Post κs a r' s' → r ≡ r'
ticket_back_only κs a r r' s s' p q = only p q

pub shown_page_only : (κs : _) (a : _) (r r' : _) (s s' : _) → shown-page.Post κs a r s → shown-page.Post κs a r' s' → r ≡ r'
shown_page_only κs a r r' s s' p q = only p q

pub list_page_only : (κs : _) (a : _) (r r' : _) (s s' : _) → list-page.Post κs a r s → list-page.Post κs a r' s'
    → (s.1.1.1.0.now ≡ s'.1.1.1.0.now) × (r ≡ r')
list_page_only κs a r r' s s' p q = (only p.output q.output, only p.answer q.answer)
