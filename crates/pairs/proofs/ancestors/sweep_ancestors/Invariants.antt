-- The invariant and the measure of `sweep_ancestors`; Answers.antt says why they hold.
use mathlib.Core.Path.{◌≡◌}
use mathlib.Core.Bool.{true}
use Prim.Native.Nat.{◌-◌, ◌/◌, ◌%◌}
use lib.ListN.{length, drop}
use Rattle.nodes.specs.Words.{nodes}
use Rattle.paging.specs.Private.Serve.{serve}
use Rattle.tickets.specs.declared.ticket.Order.TheVariants.{Ancestor}
use Rattle.tickets.specs.declared.ticket.Place.{Place}
use Rattle.tickets.specs.PairWords.{PAIR_WORDS, pair_words}
use Rattle.tickets.proofs.Groups.{rest_of}
use Rattle.tickets.specs.Ticket.{asked}
use Rattle.pairs.specs.Private.Sweep.{Placed, Started, served_all}
use Rattle.pairs.proofs.SweepStart.{Tells}
use Rattle.pairs.proofs.Zones.{Reached}
use Rattle.pairs.proofs.ancestors.sweep_ancestors.Given as goal

abbrev pub invariant-loop-i : goal.invariant-loop-i
invariant-loop-i g l =
    (length l.out ≡ length l.initial.out) × Placed l.ancestors l.i × Placed l.descendants l.from × Reached l.ancestors l.descendants (l.i / 4) (l.from / 4)
    × (l.handed.done ≡ true)
    × ((place : Place) → Started place l.ancestors l.first l.past → Tells place l.ancestors l.least l.i
    × (serve pair_words PAIR_WORDS l.out l.handed.count (rest_of l.relation Ancestor place (drop (l.i / 4) (nodes l.ancestors)) (nodes l.descendants))
    ≡ served_all (asked l.relation Ancestor) place l.initial.out l.ancestors l.descendants))
    × (l.guess % 4 ≡ 0)

abbrev pub decreases-loop-i : goal.decreases-loop-i
decreases-loop-i g l = length l.ancestors - l.i
