-- Why it holds: The check of two lists answers TAKEN, JOINT, what a list's words draw, or what a
-- node draws.
-- What would break it: An answer above JOINT that a check of lists draws would be caught here.
use mathlib.Core.List.{List, [], ◌∷◌}
use Prim.Native.Nat.{ℕ, suc, ◌≤◌}
use native.Mathlib.Omega.{arith}
use lib.Dec.{eqb}
use Rattle.answers.specs.Answer.{TAKEN, JOINT}
use Rattle.answers.specs.declared.verdict.Verdict.{Verdict}
use Rattle.answers.specs.Verdict.{refusedb}
use Rattle.laws.proofs.Tests.{chosen}
use Rattle.nodes.specs.declared.node.Node.{Node}
use Rattle.nodes.specs.Words.{nodes}
use Rattle.lists.specs.Check.{raggedb, longb, word_fault, check_from, check_nodes, check_words}
use Rattle.lists.specs.Fault.{levelb, spanb, orderb, crossb, depthb, fault}
use Rattle.lists.specs.Two.{jointb, check_two}

-- An answer up to JOINT, and a verdict with one.
abbrev Low : ℕ → Type 0
Low a = a ≤ JOINT

abbrev Mild : Verdict → Type 0
Mild v = Low v.answer

node_draws : (before : List Node) (n : Node) → Low (fault before n)
unfolding fault
node_draws before n =
    chosen Low (levelb n) (omega arith)
    (chosen Low (spanb n) (omega arith)
    (chosen Low (orderb before n) (omega arith) (chosen Low (crossb before n) (omega arith) (chosen Low (depthb before n) (omega arith) (omega arith)))))

nodes_draw : (before : List Node) (index : ℕ) (ns : List Node) → Low (check_from before index ns).answer
unfolding check_from
nodes_draw before index [] = omega arith
nodes_draw before index (n ∷ ns) =
    chosen Mild (eqb (fault before n) TAKEN) (nodes_draw (n ∷ before) (suc index) ns) (node_draws before n)

words_draw : (ws : List ℕ) → Low (check_words ws).answer
unfolding check_words check_nodes word_fault
words_draw ws =
    chosen Mild (eqb (word_fault ws) TAKEN) (nodes_draw [] 0 (nodes ws))
    (chosen Low (raggedb ws) (omega arith) (chosen Low (longb ws) (omega arith) (omega arith)))

-- No check of two lists answers above JOINT.
pub two_draws : (ancestors descendants : List ℕ) → (check_two ancestors descendants).answer ≤ JOINT
unfolding check_two
two_draws ancestors descendants =
    chosen Mild (refusedb (check_words ancestors)) (words_draw ancestors)
    (chosen Mild (refusedb (check_words descendants)) (words_draw descendants)
    (chosen Mild (jointb (nodes ancestors) (nodes descendants)) (omega arith) (omega arith)))
