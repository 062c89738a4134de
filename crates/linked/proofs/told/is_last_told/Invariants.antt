-- The invariant and the measure of `is_last_told`; Answers.antt says why they hold.
use Prim.Native.Nat.{ℕ, ◌≤◌, ◌<◌}
use mathlib.Core.Path.{◌≡◌}
use mathlib.Core.List.{List}
use Rattle.answers.specs.Answer.{TAKEN}
use Rattle.nodes.specs.Words.{nodes, count}
use Rattle.lists.specs.Check.{check_words}
use Rattle.linked.specs.Private.Told.{LastOfDocument, Told}
use Rattle.linked.proofs.WayUp.{Way}
use Rattle.linked.proofs.told.is_last_told.Given as goal

abbrev pub invariant-loop-i : goal.invariant-loop-i
invariant-loop-i l =
    (l.i ≤ l.index) × ((list : List ℕ) → (check_words list).answer ≡ TAKEN → l.index < count list → LastOfDocument (nodes list) l.index → Told (nodes list) l.links l.index
    → Way (nodes list) l.links l.index l.i)

abbrev pub decreases-loop-i : goal.decreases-loop-i
decreases-loop-i l = l.i
