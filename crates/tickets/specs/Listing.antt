-- docs/SCOPE.md, "Listings and tickets": the full listing, over both orders and both relations.
use Rattle.std.specs.Prelude.{ℕ, Bool, List, [], ◌∷◌, ◌++◌, map}
use Rattle.nodes.specs.declared.node.Node.{Node}
use Rattle.laws.specs.Choose.{keep}
use Rattle.nodes.specs.Node.{insideb, directlyb}
use Rattle.tickets.specs.declared.ticket.Key.{Key}
use Rattle.tickets.specs.declared.ticket.Order.{Order}
use Rattle.tickets.specs.declared.ticket.Order.TheVariants.{Descendant, Ancestor}
use Rattle.tickets.specs.declared.ticket.Relation.{Relation}
use Rattle.tickets.specs.declared.ticket.Relation.TheVariants.{Inside, Directly}
use Rattle.tickets.specs.Ticket.{Asked, key_with, numbers_of}

-- A pair: an ancestor, and a descendant that may lie in it.
pub record Pair : Type 0 where
  pub ancestor : Node
  pub descendant : Node

-- The pair has the relation asked for.
unfoldable pub relatedb : Relation → Pair → Bool
relatedb Inside p = insideb p.descendant p.ancestor
relatedb Directly p = directlyb p.descendant p.ancestor

-- The key by which an order sorts a pair. Descendant order sorts by document, descendant's start
-- and ancestor's start. Ancestor order sorts by document, ancestor's start and descendant's start.
unfoldable pub key_of : Order → Pair → Key
key_of Descendant p = key_with p.descendant.document p.descendant.start p.ancestor.start
key_of Ancestor p = key_with p.ancestor.document p.ancestor.start p.descendant.start

-- The same key as a list of numbers.
abbrev pub sort_key : Order → Pair → List ℕ
sort_key order p = numbers_of (key_of order p)

-- The list whose nodes come first in the order.
unfoldable pub leaders : {A : Type 0} → Order → A → A → A
leaders Descendant ancestors descendants = descendants
leaders Ancestor ancestors descendants = ancestors

-- The other list.
unfoldable pub followers : {A : Type 0} → Order → A → A → A
followers Descendant ancestors descendants = ancestors
followers Ancestor ancestors descendants = descendants

-- The pair of a leader and a follower.
unfoldable pub pair_of : Order → Node → Node → Pair
pair_of Descendant x y = record { ancestor = y; descendant = x }
pair_of Ancestor x y = record { ancestor = x; descendant = y }

-- Every pair: each leader in turn with each follower.
unfoldable pub every_pair : Order → List Node → List Node → List Pair
every_pair order [] ys = []
every_pair order (x ∷ xs) ys = map (pair_of order x) ys ++ every_pair order xs ys

-- The pair is asked for: it has the relation.
abbrev pub askedb : Asked → Pair → Bool
askedb ask p = relatedb ask.relation p

-- The full listing: every pair of an ancestor and a descendant that is asked for, in the order
-- asked for.
unfoldable pub listing : Asked → List Node → List Node → List Pair
listing ask ancestors descendants =
    keep (askedb ask) (every_pair ask.order (leaders ask.order ancestors descendants) (followers ask.order ancestors descendants))
