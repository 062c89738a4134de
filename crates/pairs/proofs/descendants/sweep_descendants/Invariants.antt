-- The invariant and the measure of `sweep_descendants`; Answers.antt says why they hold.
use mathlib.Core.Path.{◌≡◌}
use mathlib.Core.Bool.{true}
use Prim.Native.Nat.{◌-◌, ◌/◌}
use lib.ListN.{length, drop}
use Rattle.nodes.specs.Words.{nodes}
use Rattle.paging.specs.Private.Serve.{serve}
use Rattle.tickets.specs.declared.ticket.Order.TheVariants.{Descendant}
use Rattle.tickets.specs.declared.ticket.Place.{Place}
use Rattle.tickets.specs.PairWords.{PAIR_WORDS, pair_words}
use Rattle.tickets.proofs.Groups.{rest_of}
use Rattle.tickets.specs.Ticket.{asked}
use Rattle.pairs.specs.Private.Sweep.{Started, served_all}
use Rattle.pairs.proofs.Descending.{Ready}
use Rattle.pairs.proofs.SweepStart.{Tells}
use Rattle.pairs.proofs.descendants.sweep_descendants.Given as goal

abbrev pub invariant-samples : goal.invariant-samples
invariant-samples g l =
    (length l.out ≡ length l.initial.out) × Ready l.ancestors l.descendants l.j l.used l.passed l.stack × (l.handed.done ≡ true)
    × ((place : Place) → Started place l.descendants l.first l.past → Tells place l.descendants l.least l.j
    × (serve pair_words PAIR_WORDS l.out l.handed.count (rest_of l.relation Descendant place (drop (l.j / 4) (nodes l.descendants)) (nodes l.ancestors))
    ≡ served_all (asked l.relation Descendant) place l.initial.out l.ancestors l.descendants))

abbrev pub decreases-samples : goal.decreases-samples
decreases-samples g l = length l.descendants - l.j
