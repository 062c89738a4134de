-- The invariant and the measure of `pass_document`; Answers.antt says why they hold.
use mathlib.Core.Logic.{◌⊎◌}
use Prim.Native.Nat.{◌+◌, ◌-◌, ◌≤◌, ◌<◌}
use lib.ListN.{length}
use Rattle.lists.specs.Private.Both.{PAST}
use Rattle.lists.proofs.Documents.{Standing}
use Rattle.lists.proofs.both.pass_document.Given as goal

abbrev pub invariant-loop-passed : goal.invariant-loop-passed
invariant-loop-passed l =
    Standing l.first l.second l.document l.a.at l.a.start l.b.at l.b.start l.a.top l.stack
    × (l.initial.a.at + l.initial.b.at ≤ l.a.at + l.b.at)
    × ((l.initial.a.at + l.initial.b.at < l.a.at + l.b.at) ⊎ ((l.a.start < PAST) ⊎ (l.b.start < PAST)))

abbrev pub decreases-loop-passed : goal.decreases-loop-passed
decreases-loop-passed l = length l.second - l.b.at
