-- docs/SCOPE.md, "Listings and tickets": which relation, which order and which place a
-- ticket keeps.
use Rattle.std.specs.Prelude.{ℕ, List, [], ◌∷◌}
use Rattle.paging.specs.Page.{Spot, fresh, after}
use Rattle.tickets.specs.declared.ticket.Key.{Key}
use Rattle.tickets.specs.declared.ticket.Order.{Order}
use Rattle.tickets.specs.declared.ticket.Place.{Place}
use Rattle.tickets.specs.declared.ticket.Place.TheVariants.{Fresh, After}
use Rattle.tickets.specs.declared.ticket.Relation.{Relation}
use Rattle.tickets.specs.declared.ticket.Ticket.{Ticket}

-- What is asked for: which pairs, and in which order.
pub record Asked : Type 0 where
  pub relation : Relation
  pub order : Order

-- The relation and the order, put together.
abbrev pub asked : Relation → Order → Asked
asked relation order = record { relation = relation; order = order }

-- What a ticket asks for.
abbrev pub asked_by : Ticket → Asked
asked_by t = asked t.relation t.order

-- The ticket at a place that asks for `ask`.
abbrev pub ticket_at : Asked → Place → Ticket
ticket_at ask place = record { relation = ask.relation; order = ask.order; place = place }

-- The key with these three numbers.
abbrev pub key_with : ℕ → ℕ → ℕ → Key
key_with document leader follower = record { document = document; leader = leader; follower = follower }

-- The three numbers of a key.
abbrev pub numbers_of : Key → List ℕ
numbers_of k = k.document ∷ k.leader ∷ k.follower ∷ []

-- The place in the terms of `paging`: fresh, or after the three numbers of its key.
abbrev pub spot_of : Place → Spot
spot_of Fresh = fresh
spot_of (After k) = after (numbers_of k)

-- The ticket that starts a listing.
abbrev pub fresh_ticket : Asked → Ticket
fresh_ticket ask = ticket_at ask Fresh
