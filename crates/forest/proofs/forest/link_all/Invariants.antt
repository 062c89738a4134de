-- The invariant of `link_all`; Answers.antt says why they hold.
use mathlib.Core.Path.{◌≡◌}
use lib.ListN.{length}
use Rattle.nodes.specs.Words.{nodes}
use Rattle.answers.specs.Output.{written}
use Rattle.forest.specs.Private.Climb.{links_to}
use Rattle.forest.proofs.forest.link_all.Given as goal

abbrev pub invariant-loop-index : goal.invariant-loop-index
invariant-loop-index l = (length l.out ≡ length l.initial.out) × (l.out ≡ written (links_to (nodes l.list) l.index) l.initial.out)
