-- Function: `past_from` (src/leader.rt).
-- Why it holds: For the place's own leader, the followers after the place's follower lie past the
-- place. For another leader the number is 0. Each return is one case of the definition.
-- What would break it: A number one off, or a leader of another document taken for the place's own,
-- would be caught at its return.
use mathlib.Core.Path.{◌≡◌}
use borrow.Author.Tests.{eq-eqb, ne_eqb}
use Prim.Native.Nat.{ℕ, ◌+◌}
use Rattle.nodes.specs.declared.node.Node.{Node}
use Rattle.tickets.specs.declared.ticket.Key.{Key}
use Rattle.tickets.specs.declared.ticket.Place.{Place}
use Rattle.tickets.specs.declared.ticket.Place.TheVariants.{Fresh, After}
use Rattle.tickets.specs.Leaders.{past_from}
use Rattle.tickets.proofs.leader.past_from.Goals as goal

module _ (place : Place) (x : Node) where
  fresh : place ≡ Fresh → ◌≡◌ {A = ℕ} 0 (past_from place x)
  unfolding past_from
  fresh q = rw q

  module _ (k : Key) (q : place ≡ After k) where
    elsewhere : (k.document ≡ x.document → ⊥) → ◌≡◌ {A = ℕ} 0 (past_from place x)
    unfolding past_from
    elsewhere d = rw (q, ne_eqb _ _ d)

    another : k.document ≡ x.document → (k.leader ≡ x.start → ⊥) → ◌≡◌ {A = ℕ} 0 (past_from place x)
    unfolding past_from
    another d s = rw (q, eq-eqb _ _ d, ne_eqb _ _ s)

    own : k.document ≡ x.document → k.leader ≡ x.start → (n : ℕ) → n ≡ k.follower → n + 1 ≡ past_from place x
    unfolding past_from
    own d s n e = rw (q, eq-eqb _ _ d, eq-eqb _ _ s, e)

pub returns-in-After : goal.returns-in-After
returns-in-After c = own _ _ _ c.in-After.is c.if-key-leader.true c.if-key-leader-2.true _ c.from.ensures

pub returns-in_default : goal.returns-in_default
returns-in_default c = another _ _ _ c.in-After.is c.if-key-leader.true c.if-key-leader-2.false

pub returns-in_default-2 : goal.returns-in_default-2
returns-in_default-2 c = elsewhere _ _ _ c.in-After.is c.if-key-leader.false

pub returns-in_default-3 : goal.returns-in_default-3
returns-in_default-3 c = fresh _ _ c.in_default.is
