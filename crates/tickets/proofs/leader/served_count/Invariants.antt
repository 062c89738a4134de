-- The invariant of `served_count`; Answers.antt says why it holds.
use mathlib.Core.Bool.{not}
use Rattle.laws.specs.Choose.{first_at}
use Rattle.nodes.specs.Words.{nodes}
use Rattle.tickets.specs.Leaders.{servedb}
use Rattle.tickets.proofs.Search.{Searched}
use Rattle.tickets.proofs.leader.served_count.Given as goal

abbrev pub invariant-loop-k : goal.invariant-loop-k
invariant-loop-k l = Searched (λ x. not (servedb l.place x)) l.leaders (first_at (λ x. not (servedb l.place x)) (nodes l.leaders)) l.k
