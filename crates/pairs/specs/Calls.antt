-- One listing followed through calls, as its caller sees it: by the answers, and by the outputs on
-- return.
use Rattle.std.specs.Prelude.{ℕ, ◌≡◌, List, [], ◌∷◌, ◌++◌, take}
use Rattle.answers.specs.Answer.{TAKEN}
use Rattle.laws.specs.Choose.{In}
use Rattle.nodes.specs.Words.{nodes}
use Rattle.lists.specs.Two.{check_two}
use Rattle.tickets.specs.declared.ticket.Ticket.{Ticket}
use Rattle.tickets.specs.Listing.{Pair, listing}
use Rattle.tickets.specs.PairWords.{pairs_in}
use Rattle.tickets.specs.Ticket.{Asked}
use Rattle.pairs.specs.declared.page.Page.{Page}
use Rattle.pairs.specs.Page.{page_of, output_after}

-- What a call is lent in addition to its ticket: two lists and an output.
pub record Call : Type 0 where
  pub ancestors : List ℕ
  pub descendants : List ℕ
  pub out : List ℕ

-- The two lists of the call are accepted together, so that it isn't refused.
abbrev pub AcceptedCall : Call → Type 0
AcceptedCall c = (check_two c.ancestors c.descendants).answer ≡ TAKEN

-- The full listing of the two lists.
abbrev pub full_listing : Asked → Call → List Pair
full_listing ask c = listing ask (nodes c.ancestors) (nodes c.descendants)

-- The two calls have the same lists.
abbrev pub SameLists : Call → Call → Type 0
SameLists k c = (k.ancestors ≡ c.ancestors) × (k.descendants ≡ c.descendants)

-- The pair stands unaltered in the two lists, each node in its own.
abbrev pub StandsIn : Pair → Call → Type 0
StandsIn p c = In p.ancestor (nodes c.ancestors) × In p.descendant (nodes c.descendants)

-- The two pairs have one document, and their ancestors and descendants start at the same positions.
abbrev pub SameStarts : Pair → Pair → Type 0
SameStarts p q =
    (p.ancestor.document ≡ q.ancestor.document) × (p.ancestor.start ≡ q.ancestor.start) × (p.descendant.start ≡ q.descendant.start)

-- The answer of a call.
abbrev pub answer : Ticket → Call → Page
answer t c = page_of c.ancestors c.descendants t c.out

-- The output of a call on return.
abbrev pub output : Ticket → Call → List ℕ
output t c = output_after c.ancestors c.descendants t c.out

-- The pairs that a call hands out: the first of its output, as many as it counts.
abbrev pub shown : Ticket → Call → List Pair
shown t c = take (answer t c).count (pairs_in (nodes (output t c)))

-- The ticket after a sequence of calls, each of which takes the ticket that the last one returned.
unfoldable pub ticket_through : Ticket → List Call → Ticket
ticket_through t [] = t
ticket_through t (c ∷ cs) = ticket_through (answer t c).ticket cs

-- All pairs that a sequence of calls hands out, in the order in which they came.
unfoldable pub shown_through : Ticket → List Call → List Pair
shown_through t [] = []
shown_through t (c ∷ cs) = shown t c ++ shown_through (answer t c).ticket cs
