-- The invariant and the measure of `is_elder_told`; Answers.antt says why they hold.
use Prim.Native.Nat.{ℕ, ◌*◌, ◌-◌, ◌<◌}
use mathlib.Core.Path.{◌≡◌}
use mathlib.Core.List.{List}
use lib.ListN.{get_or}
use Rattle.answers.specs.Answer.{TAKEN}
use Rattle.nodes.specs.declared.node.Node.{Node}
use Rattle.nodes.specs.Words.{nodes}
use Rattle.lists.specs.Check.{check_words}
use Rattle.forest.specs.Private.Climb.{Ended}
use Rattle.forest.proofs.Climbing.{Passed}
use Rattle.linked.specs.Private.Told.{Told}
use Rattle.linked.proofs.WayUp.{Way}
use Rattle.linked.proofs.told.is_elder_told.Given as goal

-- What is kept of an accepted list, if the links are told up to the node before, which ended.
pub record Reached (ns : List Node) (links : List ℕ) (i e : ℕ) : Type 0 where
  pub passed : Passed ns i e
  pub way : Way ns links (i - 1) e

abbrev pub invariant-loop-parent : goal.invariant-loop-parent
invariant-loop-parent l =
    (l.elder < l.index) × (l.parent ≡ get_or l.links (3 * l.elder) 0)
    × ((check_words l.list).answer ≡ TAKEN → Ended (nodes l.list) l.index → Told (nodes l.list) l.links (l.index - 1) → Reached (nodes l.list) l.links l.index l.elder)

abbrev pub decreases-loop-parent : goal.decreases-loop-parent
decreases-loop-parent l = l.elder
