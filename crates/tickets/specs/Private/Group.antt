-- The part of a listing that one leader gives.
use Rattle.std.specs.Prelude.{List, map}
use Rattle.nodes.specs.declared.node.Node.{Node}
use Rattle.laws.specs.Choose.{keep}
use Rattle.tickets.specs.declared.ticket.Order.{Order}
use Rattle.tickets.specs.Listing.{Pair, askedb, pair_of}
use Rattle.tickets.specs.Ticket.{Asked}

-- The pairs of a leader with each follower.
unfoldable pub group : Order → Node → List Node → List Pair
group order leader ns = map (pair_of order leader) ns

-- The followers whose pairs with a leader are asked for.
unfoldable pub matches : Asked → Node → List Node → List Node
matches ask leader ns = keep (λ n. askedb ask (pair_of ask.order leader n)) ns
