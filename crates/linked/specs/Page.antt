-- docs/SCOPE.md, "Links that are lent": what a page call that is also lent the ancestors' links
-- answers and writes. Unless it is refused with LINKS, that is what the plain call answers and
-- writes.
use Rattle.std.specs.Prelude.{ℕ, Bool, false, cond, not, ◌&&◌, List}
use Rattle.answers.specs.Verdict.{refusedb}
use Rattle.lists.specs.Two.{check_two}
use Rattle.tickets.specs.declared.ticket.Ticket.{Ticket}
use Rattle.pairs.specs.declared.page.Page.{Page}
use Rattle.pairs.specs.Page.{page_of, output_after}
use Rattle.linked.specs.Check.{linkedb, unlinked}

-- The page of a call that is refused with LINKS.
abbrev pub unlinked_page : Ticket → Page
unlinked_page t = record { verdict = unlinked; count = 0; done = false; ticket = t }

-- One call: its two lists, the words that it is lent as links, its ticket and its output.
module _ (ancestors descendants links : List ℕ) where
  -- The call is refused with LINKS: the two lists are accepted together, and the words aren't the
  -- links of the ancestors.
  unfoldable pub unlinkedb : Bool
  unlinkedb = not (refusedb (check_two ancestors descendants)) && not (linkedb ancestors links)

  module _ (t : Ticket) (out : List ℕ) where
    -- The answer of the call.
    unfoldable pub linked_page : Page
    linked_page = cond unlinkedb (unlinked_page t) (page_of ancestors descendants t out)

    -- The output on return.
    unfoldable pub linked_output : List ℕ
    linked_output = cond unlinkedb out (output_after ancestors descendants t out)
