-- The invariant of `count_tag`; Answers.antt says why they hold.
use mathlib.Core.Path.{◌≡◌}
use lib.ListN.{length}
use Rattle.marks.proofs.Picking.{firsts_with}
use Rattle.marks.proofs.pick.count_tag.Given as goal

abbrev pub invariant-loop-index : goal.invariant-loop-index
invariant-loop-index l = l.found ≡ length (firsts_with l.tag l.table l.index)
