-- The invariant and the measures of `walk_zone`; Answers.antt says why they hold.
use Rattle.std.proofs.Common.{◌≡◌, ◌+◌, ◌-◌, length}
use Rattle.std.proofs.Math.Seq.{slice}
use Rattle.nodes.specs.Words.{count}
use Rattle.sheets.specs.Private.Walk.{subtotals_from}
use Rattle.sheets.specs.Sheet.{subtotal_over, sheet_samples}
use Rattle.sheets.proofs.Walking.{Walking}
use Rattle.sheets.proofs.walk.+walk_zone.Given as goal

abbrev pub decreases-walk_zone : goal.decreases-walk_zone
decreases-walk_zone l = l.depth

abbrev pub invariant-loop-own : goal.invariant-loop-own
invariant-loop-own l =
    Walking l.zones l.samples l.zone l.sample l.next l.place
    × (l.subtotal ≡ subtotal_over (slice l.sample l.place (sheet_samples l.samples l.hundredths)))
    × (l.out ≡ subtotals_from l.zones l.samples l.hundredths (l.zone + 1) l.next l.initial.out)
    × (length l.out ≡ length l.initial.out)

abbrev pub decreases-loop-own : goal.decreases-loop-own
decreases-loop-own l = count l.zones - l.next
