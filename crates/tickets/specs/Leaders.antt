-- How a leader, the node that the order sorts by first, lies to a ticket's place.
use Rattle.std.specs.Prelude.{ℕ, ◌+◌, Bool, false, not, cond, ◌&&◌, List, [], ◌∷◌, eqb}
use Rattle.nodes.specs.declared.node.Node.{Node}
use Rattle.laws.specs.Choose.{first_at}
use Rattle.paging.specs.Key.{aboveb}
use Rattle.tickets.specs.declared.ticket.Place.{Place}
use Rattle.tickets.specs.declared.ticket.Place.TheVariants.{Fresh, After}

-- The start from which on a leader's followers lie past a place. It is meant for a leader that
-- doesn't stand before the place's own.
unfoldable pub past_from : Place → Node → ℕ
past_from Fresh leader = 0
past_from (After k) leader = cond (eqb k.document leader.document && eqb k.leader leader.start) (k.follower + 1) 0

-- The leader stands before the leader of the place, so that none of its pairs lies past it.
unfoldable pub servedb : Place → Node → Bool
servedb Fresh leader = false
servedb (After k) leader = aboveb (k.document ∷ k.leader ∷ []) (leader.document ∷ leader.start ∷ [])

-- The number of leaders that stand before the leader of the place.
unfoldable pub served_in : Place → List Node → ℕ
served_in place ns = first_at (λ x. not (servedb place x)) ns
