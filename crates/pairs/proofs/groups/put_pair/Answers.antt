-- Function: `put_pair` (src/groups.rt).
-- Why it holds: The order alone decides which of the two nodes is the ancestor, and `pair_of`
-- decides as the code does.
-- What would break it: Two nodes written in the wrong order would be caught at the return for that
-- order.
use mathlib.Core.Path.{◌≡◌, refl, ap, ◌∙◌}
use Rattle.nodes.specs.declared.node.Node.{Node}
use Rattle.paging.specs.Private.Serve.{store}
use Rattle.tickets.specs.declared.ticket.Order.{Order}
use Rattle.tickets.specs.declared.ticket.Order.TheVariants.{Descendant, Ancestor}
use Rattle.tickets.specs.Listing.{Pair, pair_of}
use Rattle.tickets.specs.PairWords.{PAIR_WORDS, pair_words}
use Rattle.pairs.proofs.groups.put_pair.Goals as goal

module _ (order : Order) (x y : Node) where
  descendant_first : order ≡ Descendant → ◌≡◌ {A = Pair} (record { ancestor = y; descendant = x }) (pair_of order x y)
  unfolding pair_of
  descendant_first q = rw q refl

  ancestor_first : order ≡ Ancestor → ◌≡◌ {A = Pair} (record { ancestor = x; descendant = y }) (pair_of order x y)
  unfolding pair_of
  ancestor_first q = rw q refl

pub returns-in-Descendant : goal.returns-in-Descendant
returns-in-Descendant c =
    let q = c.in-Descendant.is in
    c.put_nodes.ensures ∙ ap (store pair_words PAIR_WORDS _ _) (descendant_first _ _ _ q)

pub returns-in-Ancestor : goal.returns-in-Ancestor
returns-in-Ancestor c =
    let q = c.in-Ancestor.is in
    c.put_nodes-in-Ancestor.ensures ∙ ap (store pair_words PAIR_WORDS _ _) (ancestor_first _ _ _ q)
