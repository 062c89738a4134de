-- Function: `from` of `Ticket` (src/words.rt).
-- Why it holds: The relation and the order are told by the numbers that the definition tests, and
-- the place is that of the words.
-- What would break it: Two relations or two orders swapped, or a part made of another word, would
-- be caught at the return.
use mathlib.Core.Path.{◌≡◌}
use Prim.Native.Nat.{ℕ}
use borrow.Author.Tests.{eq-eqb, ne_eqb}
use Rattle.tickets.specs.declared.ticket.Order.{Order}
use Rattle.tickets.specs.declared.ticket.Order.TheVariants.{Descendant, Ancestor}
use Rattle.tickets.specs.declared.ticket.Relation.{Relation}
use Rattle.tickets.specs.declared.ticket.Relation.TheVariants.{Inside, Directly}
use Rattle.tickets.specs.Ticket.{asked, ticket_at}
use Rattle.ticket_words.specs.Words.{relation_of, order_of, ticket_of}
use Rattle.ticket_words.proofs.words.TicketFromTicketWords.from.Goals as goal
use Rattle.ticket_words.proofs.words.TicketFromTicketWords.from.Goals.{then-words-eq0, else-words-eq0, then-words-eq0-2, else-words-eq0-2}

module _ (n : ℕ) where
  first_relation : (r : Relation) → n ≡ 0 → r ≡ Inside → r ≡ relation_of n
  unfolding relation_of
  first_relation r z e = rw (eq-eqb n 0 z) e

  other_relation : (r : Relation) → (n ≡ 0 → ⊥) → r ≡ Directly → r ≡ relation_of n
  unfolding relation_of
  other_relation r z e = rw (ne_eqb n 0 z) e

  first_order : (o : Order) → n ≡ 0 → o ≡ Descendant → o ≡ order_of n
  unfolding order_of
  first_order o z e = rw (eq-eqb n 0 z) e

  other_order : (o : Order) → (n ≡ 0 → ⊥) → o ≡ Ancestor → o ≡ order_of n
  unfolding order_of
  other_order o z e = rw (ne_eqb n 0 z) e

pub returns : goal.returns
unfolding ticket_of
returns c =
    let relation : c.if-words-eq0.result ≡ relation_of c.args.words.relation =
    elim c.if-words-eq0.branch [
      | then-words-eq0 w ↦ first_relation _ _ w.if-words-eq0.true w.result-is
      | else-words-eq0 w ↦ other_relation _ _ w.if-words-eq0.false w.result-is
    ] in
    let order : c.if-words-eq0-2.result ≡ order_of c.args.words.order =
    elim c.if-words-eq0-2.branch [
      | then-words-eq0-2 w ↦ first_order _ _ w.if-words-eq0-2.true w.result-is
      | else-words-eq0-2 w ↦ other_order _ _ w.if-words-eq0-2.false w.result-is
    ] in
    λ k. ticket_at (asked (relation k) (order k)) (c.into.ensures k)
