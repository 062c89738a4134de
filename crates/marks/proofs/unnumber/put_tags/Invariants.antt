-- The invariant of `put_tags`; Answers.antt says why they hold.
use mathlib.Core.Path.{◌≡◌}
use lib.ListN.{length, drop}
use Rattle.marks.specs.Back.{tagged}
use Rattle.marks.specs.Table.{rows}
use Rattle.marks.proofs.unnumber.put_tags.Given as goal

abbrev pub invariant-loop-index : goal.invariant-loop-index
invariant-loop-index l =
    (length l.out ≡ length l.initial.out) × (tagged (drop l.index (rows l.table)) l.out ≡ tagged (rows l.table) l.initial.out)
