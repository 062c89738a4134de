-- Function: `key_at` (src/page.rt).
-- Why it holds: The nodes of the pair at an index are at twice that index, the ancestor first.
-- What would break it: A key with its two starts swapped, or the key of another pair, would be
-- caught at the return for its order.
use mathlib.Core.Path.{◌≡◌, refl}
use mathlib.Core.List.{List}
use Prim.Native.Nat.{ℕ, ◌+◌, ◌*◌}
use Rattle.nodes.specs.declared.node.Node.{Node}
use Rattle.nodes.specs.Words.{nodes, node_at}
use Rattle.tickets.specs.declared.ticket.Order.{Order}
use Rattle.tickets.specs.declared.ticket.Order.TheVariants.{Descendant, Ancestor}
use Rattle.tickets.specs.Listing.{key_of}
use Rattle.tickets.specs.Ticket.{key_with}
use Rattle.pairs.specs.Private.Sweep.{key_in}
use Rattle.pairs.proofs.page.key_at.Goals as goal

by_descendant : (order : Order) (ws : List ℕ) (index : ℕ) (a d : Node) → order ≡ Descendant → a ≡ node_at ws (2 * index) → d ≡ node_at ws (2 * index + 1)
    → key_with d.document d.start a.start ≡ key_in order (nodes ws) index
unfolding key_in key_of node_at
by_descendant order ws index a d o p q = rw (o, p, q) refl

by_ancestor : (order : Order) (ws : List ℕ) (index : ℕ) (a d : Node) → order ≡ Ancestor → a ≡ node_at ws (2 * index) → d ≡ node_at ws (2 * index + 1)
    → key_with a.document a.start d.start ≡ key_in order (nodes ws) index
unfolding key_in key_of node_at
by_ancestor order ws index a d o p q = rw (o, p, q) refl

pub returns-in-Descendant : goal.returns-in-Descendant
returns-in-Descendant c =
    let a = c.args in
    by_descendant _ a.out.now a.index _ _ c.in-Descendant.is c.node_at-ancestor.ensures
    c.node_at-descendant.ensures

pub returns-in-Ancestor : goal.returns-in-Ancestor
returns-in-Ancestor c =
    let a = c.args in
    by_ancestor _ a.out.now a.index _ _ c.in-Ancestor.is c.node_at-ancestor.ensures
    c.node_at-descendant.ensures
