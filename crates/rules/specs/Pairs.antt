-- docs/SCOPE.md, "Listings and tickets": the full listing over any rule of what is inside. It is
-- that of `tickets` with the rule for `insideb`.
use Rattle.std.specs.Prelude.{Bool, ◌&&◌, List}
use Rattle.laws.specs.Choose.{keep}
use Rattle.nodes.specs.declared.node.Node.{Node}
use Rattle.nodes.specs.Node.{deeperb}
use Rattle.tickets.specs.declared.ticket.Relation.{Relation}
use Rattle.tickets.specs.declared.ticket.Relation.TheVariants.{Inside, Directly}
use Rattle.tickets.specs.Listing.{Pair, leaders, followers, every_pair}
use Rattle.tickets.specs.Ticket.{Asked}
use Rattle.rules.specs.Rule.{Rule}

module _ (inside : Rule) where
  -- The pair has the relation asked for.
  unfoldable pub related_by : Relation → Pair → Bool
  related_by Inside p = inside p.descendant p.ancestor
  related_by Directly p = inside p.descendant p.ancestor && deeperb p.descendant p.ancestor

  -- The full listing of what is asked for.
  unfoldable pub listing_by : Asked → List Node → List Node → List Pair
  listing_by ask ancestors descendants =
      keep (related_by ask.relation) (every_pair ask.order (leaders ask.order ancestors descendants) (followers ask.order ancestors descendants))
