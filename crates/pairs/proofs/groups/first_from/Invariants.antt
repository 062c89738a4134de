-- The invariant and the measure of `first_from`; Answers.antt says why they hold.
use Prim.Native.Nat.{◌+◌, ◌-◌, ◌/◌, ◌≤◌}
use mathlib.Core.Path.{◌≡◌}
use Rattle.laws.specs.Choose.{first_at}
use Rattle.nodes.specs.Words.{NODE_WORDS}
use Rattle.pairs.specs.Private.Sweep.{Placed, stretch, starts_from}
use Rattle.pairs.proofs.groups.first_from.Given as goal

abbrev pub invariant-loop-k : goal.invariant-loop-k
invariant-loop-k l =
    Placed l.followers l.k × (l.k ≤ l.to)
    × (first_at (starts_from l.start) (stretch l.followers l.k l.to) + l.k / NODE_WORDS ≡ first_at (starts_from l.start) (stretch l.followers l.from l.to) + l.from / NODE_WORDS)

abbrev pub decreases-loop-k : goal.decreases-loop-k
decreases-loop-k l = l.to - l.k
