-- docs/SCOPE.md, "Listings and tickets": what a page call answers and writes.
use Rattle.std.specs.Prelude.{ℕ, Bool, false, cond, List, [], length}
use Rattle.nodes.specs.Words.{nodes}
use Rattle.answers.specs.Verdict.{refusedb}
use Rattle.lists.specs.Two.{check_two}
use Rattle.paging.specs.Page.{remains, handed, doneb, reached}
use Rattle.answers.specs.Output.{words_in, written}
use Rattle.tickets.specs.declared.ticket.Place.TheVariants.{After}
use Rattle.tickets.specs.declared.ticket.Ticket.{Ticket}
use Rattle.tickets.specs.Listing.{Pair, key_of, sort_key, listing}
use Rattle.tickets.specs.PairWords.{pair_words, room}
use Rattle.tickets.specs.Ticket.{spot_of, asked_by, ticket_at}
use Rattle.pairs.specs.declared.page.Page.{Page}

-- The full listing that a ticket asks for.
abbrev pub listing_of : Ticket → List ℕ → List ℕ → List Pair
listing_of t ancestors descendants = listing (asked_by t) (nodes ancestors) (nodes descendants)

-- What remains of that listing past the ticket's place.
abbrev pub remaining : Ticket → List ℕ → List ℕ → List Pair
remaining t ancestors descendants = remains (sort_key t.order) (spot_of t.place) (listing_of t ancestors descendants)

-- One call: its two lists, its ticket and its output.
module _ (ancestors descendants : List ℕ) (t : Ticket) (out : List ℕ) where
  -- The pairs that the call hands out. A refused call hands out none; an accepted one hands out the
  -- first that remain, as many as fit.
  unfoldable pub handed_out : List Pair
  handed_out =
      cond (refusedb (check_two ancestors descendants)) []
      (handed (sort_key t.order) (spot_of t.place) (room out) (listing_of t ancestors descendants))

  -- The call is done: it is accepted and wrote all that remained.
  unfoldable pub says_done : Bool
  says_done =
      cond (refusedb (check_two ancestors descendants)) false
      (doneb (sort_key t.order) (spot_of t.place) (room out) (listing_of t ancestors descendants))

  -- The ticket that comes back. Its place is the last written pair's key; without a pair it is the
  -- old place.
  unfoldable pub ticket_after : Ticket
  ticket_after = ticket_at (asked_by t) (reached (λ p. After (key_of t.order p)) t.place handed_out)

  -- The answer of the call.
  unfoldable pub page_of : Page
  page_of = record { verdict = check_two ancestors descendants; count = length handed_out; done = says_done; ticket = ticket_after }

  -- The output on return.
  unfoldable pub output_after : List ℕ
  output_after = written (words_in pair_words handed_out) out
