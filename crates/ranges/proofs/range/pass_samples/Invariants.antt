-- The invariant of `pass_samples`; Answers.antt says why it holds.
use Prim.Native.Nat.{◌≤◌}
use Rattle.nodes.specs.Words.{count}
use Rattle.readings.specs.Sample.{samples_in}
use Rattle.ranges.proofs.Passing.{Reached}
use Rattle.ranges.proofs.range.pass_samples.Given as goal

abbrev pub invariant-loop-index : goal.invariant-loop-index
invariant-loop-index l =
    (l.index ≤ count l.samples) × Reached l.zone (samples_in l.samples l.readings) l.range l.index
