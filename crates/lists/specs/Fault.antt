-- docs/SCOPE.md, "Answer numbers", rows 3 to 7: what is wrong at a node, given all the nodes before
-- it, the last one first.
use Rattle.std.specs.Prelude.{ℕ, Bool, false, cond, not, ◌&&◌, ◌||◌, List, [], ◌∷◌, ltb, eqb}
use Rattle.nodes.specs.declared.node.Node.{Node}
use Rattle.answers.specs.Answer.{TAKEN, LEVEL, SPAN, ORDER, CROSS, DEPTH}
use Rattle.laws.specs.Choose.{any}
use Rattle.nodes.specs.Node.{insideb, afterb, openb, MOST_LEVELS}

-- LEVEL: the level is 0 or above 64.
unfoldable pub levelb : Node → Bool
levelb n = eqb n.level 0 || ltb MOST_LEVELS n.level

-- SPAN: the node ends before it starts.
unfoldable pub spanb : Node → Bool
spanb n = ltb n.end n.start

-- ORDER: the node doesn't stand after the node before.
unfoldable pub orderb : List Node → Node → Bool
orderb [] n = false
orderb (e ∷ before) n = not (afterb n e)

-- CROSS: an earlier node is still open at this one, which isn't inside it.
unfoldable pub crossb : List Node → Node → Bool
crossb before n = any (λ e. openb n e && not (insideb n e)) before

-- DEPTH: an earlier node contains this one, but its level isn't lower.
unfoldable pub depthb : List Node → Node → Bool
depthb before n = any (λ e. insideb n e && not (ltb e.level n.level)) before

-- The first of these that applies, or TAKEN where none does.
unfoldable pub fault : List Node → Node → ℕ
fault before n =
    cond (levelb n) LEVEL
    (cond (spanb n) SPAN
    (cond (orderb before n) ORDER
    (cond (crossb before n) CROSS
    (cond (depthb before n) DEPTH TAKEN))))
