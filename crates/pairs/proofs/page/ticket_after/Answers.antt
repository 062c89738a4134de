-- Function: `ticket_after` (src/page.rt).
-- Why it holds: Where nothing was written the place is the old one; otherwise it is the key of the
-- last pair.
-- What would break it: A place that stays although pairs were written, or one of another pair,
-- would be caught at a return.
use mathlib.Core.Path.{◌≡◌, refl, ap}
use mathlib.Core.List.{List}
use Prim.Native.Nat.{ℕ, ◌-◌}
use native.Mathlib.Omega.{arith}
use borrow.Author.Tests.{eq-eqb, ne_eqb}
use Rattle.nodes.specs.declared.node.Node.{Node}
use Rattle.nodes.specs.Words.{nodes}
use Rattle.tickets.specs.declared.ticket.Key.{Key}
use Rattle.tickets.specs.declared.ticket.Place.TheVariants.{After}
use Rattle.tickets.specs.declared.ticket.Ticket.{Ticket}
use Rattle.tickets.specs.Ticket.{asked_by, ticket_at}
use Rattle.pairs.specs.Private.Sweep.{key_in, place_reached}
use Rattle.pairs.proofs.page.ticket_after.Goals as goal

stays : (old : Ticket) (ns : List Node) (count : ℕ) → count ≡ 0
    → old ≡ ticket_at (asked_by old) (place_reached old.order old.place ns count)
unfolding place_reached
stays old ns count q = rw (eq-eqb count 0 q) refl

moves : (old : Ticket) (ns : List Node) (count : ℕ) (k : Key) → (count ≡ 0 → ⊥) → k ≡ key_in old.order ns (count - 1)
    → ticket_at (asked_by old) (After k) ≡ ticket_at (asked_by old) (place_reached old.order old.place ns count)
unfolding place_reached
moves old ns count k h q = rw (ne_eqb count 0 h) (ap (λ j. ticket_at (asked_by old) (After j)) q)

pub returns-then-count-eq0 : goal.returns-then-count-eq0
returns-then-count-eq0 c =
    let a = c.args in
    stays a.old (nodes a.out.now) a.count (omega arith)

pub returns : goal.returns
returns c =
    let a = c.args in
    moves a.old (nodes a.out.now) a.count _ (omega arith) c.key_at-key.ensures
