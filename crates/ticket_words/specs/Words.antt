-- A ticket in six words, for callers that have neither enums nor options: what the words stand for,
-- and which words come back.
use Rattle.std.specs.Prelude.{ℕ, cond, eqb}
use Rattle.tickets.specs.declared.ticket.Order.{Order}
use Rattle.tickets.specs.declared.ticket.Order.TheVariants.{Descendant, Ancestor}
use Rattle.tickets.specs.declared.ticket.Place.{Place}
use Rattle.tickets.specs.declared.ticket.Place.TheVariants.{Fresh, After}
use Rattle.tickets.specs.declared.ticket.Relation.{Relation}
use Rattle.tickets.specs.declared.ticket.Relation.TheVariants.{Inside, Directly}
use Rattle.tickets.specs.declared.ticket.Ticket.{Ticket}
use Rattle.tickets.specs.Ticket.{asked, ticket_at, key_with}
use Rattle.ticket_words.specs.declared.words.TicketWords.{TicketWords}

-- The relation that a number stands for: 0 is inside, and any other number directly inside.
unfoldable pub relation_of : ℕ → Relation
relation_of number = cond (eqb number 0) Inside Directly

-- The order that a number stands for: 0 is descendant order, and any other number ancestor order.
unfoldable pub order_of : ℕ → Order
order_of number = cond (eqb number 0) Descendant Ancestor

-- The place that the words stand for: fresh where `placed` is 0, otherwise after the key in the
-- last three words.
unfoldable pub place_of : TicketWords → Place
place_of w = cond (eqb w.placed 0) Fresh (After (key_with w.document w.first w.second))

-- The ticket that six words stand for.
unfoldable pub ticket_of : TicketWords → Ticket
ticket_of w = ticket_at (asked (relation_of w.relation) (order_of w.order)) (place_of w)

-- The words once they are moved to a place. A fresh place leaves them as they are.
abbrev pub moved_to : TicketWords → Place → TicketWords
moved_to w Fresh = w
moved_to w (After k) = record {
  relation = w.relation;
  order = w.order;
  placed = 1;
  document = k.document;
  first = k.leader;
  second = k.follower;
}

-- The words that come back from a call that wrote `count` pairs. They stay as they were if it wrote
-- none; otherwise they are moved to the place that it reached.
unfoldable pub ticket_back : TicketWords → ℕ → Place → TicketWords
ticket_back w count place = cond (eqb count 0) w (moved_to w place)
