-- Function: `served_count` (src/leader.rt).
-- Why it holds: At each turn, the search has passed k leaders, each of which stands before the
-- leader of the place.
-- What would break it: A leader passed over, or an index one off, would be caught at a return or at
-- the next turn.
use mathlib.Core.Path.{sym, ap, ◌∙◌}
use mathlib.Core.Bool.{not}
use native.Mathlib.Omega.{arith}
use Rattle.tickets.specs.Leaders.{servedb, served_in}
use Rattle.tickets.proofs.Search.{search_found, search_on, search_end}
use Rattle.tickets.proofs.leader.served_count.Goals as goal

pub returns-then-not-is_served : goal.returns-then-not-is_served
unfolding served_in
returns-then-not-is_served c =
    let a = c.args in
    let l = c.loop-k in
    let test = ap not (sym c.is_served.ensures ∙ c.if-not-is_served.true) in
    search_found (λ x. not (servedb a.place x)) a.leaders.now _ l.k _ l.invariant (omega arith) c.node_at.ensures test

pub loop-k-preserved : goal.loop-k-preserved
loop-k-preserved c =
    let a = c.args in
    let l = c.loop-k in
    let test = ap not (sym c.is_served.ensures ∙ c.if-not-is_served.false) in
    search_on (λ x. not (servedb a.place x)) a.leaders.now _ l.k _ l.invariant (omega arith) c.node_at.ensures test

pub returns : goal.returns
unfolding served_in
returns c = omega (arith, search_end _ c.args.leaders.now _ c.loop-k.k c.loop-k.invariant (omega arith))
