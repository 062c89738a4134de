-- Why it holds: The ticket asked for is the one that the words stand for, so its page and its
-- output are those of the words. Each page call in words cites it.
-- What would break it: A page of another ticket, or shown for other words, would be caught here.
use mathlib.Core.Path.{◌≡◌, ap, ◌∙◌}
use mathlib.Core.List.{List}
use Prim.Native.Nat.{ℕ}
use Rattle.tickets.specs.declared.ticket.Ticket.{Ticket}
use Rattle.pairs.specs.declared.page.Page.{Page}
use Rattle.pairs.specs.Page.{page_of, output_after}
use Rattle.ticket_words.specs.declared.page.PageWords.{PageWords}
use Rattle.ticket_words.specs.declared.words.TicketWords.{TicketWords}
use Rattle.ticket_words.specs.Page.{shown_page}
use Rattle.ticket_words.specs.Words.{ticket_of}

-- The call for the ticket asked for is the call for the one that the words stand for.
module _ (ancestors descendants out : List ℕ) (w : TicketWords) (asked : Ticket) (q : asked ≡ ticket_of w) where
  pub page_shown : (p : Page) (r : PageWords) → r ≡ shown_page w p → p ≡ page_of ancestors descendants asked out
      → (last : List ℕ) → last ≡ output_after ancestors descendants asked out
      → record {
        answer : r ≡ shown_page w (page_of ancestors descendants (ticket_of w) out);
        output : last ≡ output_after ancestors descendants (ticket_of w) out;
      }
  page_shown p r s e last l = record {
    answer = s ∙ ap (shown_page w) (e ∙ ap (λ (t : Ticket). page_of ancestors descendants t out) q);
    output = l ∙ ap (λ (t : Ticket). output_after ancestors descendants t out) q;
  }
