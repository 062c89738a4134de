-- A page for callers that keep a ticket as six words.
use Rattle.std.specs.Prelude.{cond}
use Rattle.pairs.specs.declared.page.Page.{Page}
use Rattle.ticket_words.specs.declared.page.PageWords.{PageWords}
use Rattle.ticket_words.specs.declared.words.TicketWords.{TicketWords}
use Rattle.ticket_words.specs.Words.{ticket_back}

-- The page with its ticket in words, for a call with these words.
unfoldable pub shown_page : TicketWords → Page → PageWords
shown_page w p = record {
  verdict = p.verdict;
  done = cond p.done 1 0;
  count = p.count;
  ticket = ticket_back w p.count p.ticket.place;
}
