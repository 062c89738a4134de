-- The invariant of `are_links`; Answers.antt says why it holds.
use Prim.Native.Nat.{◌-◌, ◌≤◌, ◌<◌}
use mathlib.Core.Path.{◌≡◌}
use Rattle.answers.specs.Answer.{TAKEN}
use Rattle.nodes.specs.Words.{nodes}
use Rattle.lists.specs.Check.{check_words}
use Rattle.linked.specs.Private.Told.{Told}
use Rattle.linked.proofs.told.are_links.Given as goal

abbrev pub invariant-loop-index : goal.invariant-loop-index
invariant-loop-index l = (0 < l.index) × (l.index ≤ l.count) × ((check_words l.list).answer ≡ TAKEN → Told (nodes l.list) l.links (l.index - 1))
