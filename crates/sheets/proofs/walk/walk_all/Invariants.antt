-- The invariant and the measure of `walk_all`; Answers.antt says why they hold.
use mathlib.Core.Path.{◌≡◌}
use Prim.Native.Nat.{◌-◌, ◌≤◌, ◌<◌}
use lib.ListN.{length}
use Rattle.nodes.specs.Words.{node_at, count}
use Rattle.sheets.specs.Private.Walk.{NoneAfter, subtotals_from}
use Rattle.sheets.proofs.walk.walk_all.Given as goal

abbrev pub invariant-loop-zone : goal.invariant-loop-zone
invariant-loop-zone l =
    (l.zone ≤ count l.zones) × (l.sample ≤ count l.samples) × (l.zone < count l.zones → NoneAfter l.samples (node_at l.zones l.zone) l.sample)
    × (l.out ≡ subtotals_from l.zones l.samples l.hundredths 0 l.zone l.initial.out) × (length l.out ≡ length l.initial.out)

abbrev pub decreases-loop-zone : goal.decreases-loop-zone
decreases-loop-zone l = count l.zones - l.zone
