-- The invariant and the measure of `first_after`; Answers.antt says why they hold.
use Prim.Native.Nat.{◌+◌, ◌-◌, ◌/◌}
use lib.ListN.{length, drop}
use Rattle.laws.specs.Choose.{first_at}
use Rattle.nodes.specs.Node.{afterb}
use Rattle.nodes.specs.Words.{nodes}
use Rattle.tickets.proofs.Search.{Searched}
use Rattle.pairs.specs.Private.Sweep.{Placed}
use Rattle.pairs.proofs.ancestors.first_after.Given as goal

abbrev pub invariant-loop-k : goal.invariant-loop-k
invariant-loop-k l =
    Placed l.descendants l.k
    × Searched (λ d. afterb d l.ancestor) l.descendants (first_at (λ d. afterb d l.ancestor) (drop (l.from / 4) (nodes l.descendants)) + l.from / 4) (l.k / 4)

abbrev pub decreases-loop-k : goal.decreases-loop-k
decreases-loop-k l = length l.descendants - l.k
