-- What a walk along a list keeps, for the contracts of private functions. No public contract cites
-- this file.
use Rattle.std.specs.Prelude.{ℕ, ◌+◌, ◌≤◌, ◌<◌, ◌≡◌, Bool, true, false, cond, not, ◌&&◌, ◌||◌, List, [], ◌∷◌, ltb, leb, eqb, get_or}
use Rattle.nodes.specs.declared.node.Node.{Node}
use Rattle.answers.specs.Answer.{TAKEN, LEVEL, SPAN, ORDER, CROSS, DEPTH}
use Rattle.laws.specs.Choose.{keep}
use Rattle.nodes.specs.Node.{insideb, openb}
use Rattle.nodes.specs.Words.{node}
use Rattle.lists.specs.Fault.{levelb, spanb, orderb}

-- The node whose four words start at word w.
unfoldable pub node_from : List ℕ → ℕ → Node
node_from words w = node (get_or words w 0) (get_or words (w + 1) 0) (get_or words (w + 2) 0) (get_or words (w + 3) 0)

-- What is left of a chain once the nodes at its head that aren't open at n are taken off.
unfoldable pub unended : Node → List Node → List Node
unended n [] = []
unended n (e ∷ es) = cond (openb n e) (e ∷ es) (unended n es)

-- e lies inside the head of the chain, if there is one, and its level is higher.
abbrev pub Upon : Node → List Node → Type 0
Upon e [] = Unit {0}
Upon e (f ∷ es) = (insideb e f ≡ true) × (f.level < e.level)

-- Each node of a chain lies inside the next, with a higher level, and the last has at least level
-- 1.
abbrev pub Chain : List Node → Type 0
Chain [] = Unit {0}
Chain (e ∷ es) = (1 ≤ e.level) × Upon e es × Chain es

-- A chain s stands for the nodes before, at every node n that P lets come next. That is: of both, a
-- test that only nodes open at n pass keeps the same nodes.
pub record Stands (P : Node → Type 0) (before s : List Node) : Type 0 where
  pub chain : Chain s
  pub keeps : (n : Node) → P n → (test : Node → Bool) → ((e : Node) → test e ≡ true → openb n e ≡ true) → keep test before ≡ keep test s

-- n comes next in document d: it starts there at `from` or later, or is of a later document.
unfoldable pub nextb : ℕ → ℕ → Node → Bool
nextb d from n = ltb d n.document || (eqb n.document d && leb from n.start)

-- What a walk in document d knows of the nodes before: the chain s stands for them at every node
-- that comes next, and such a node is in order.
pub record Kept (before s : List Node) (d from : ℕ) : Type 0 where
  pub stands : Stands (λ n. nextb d from n ≡ true) before s
  pub next : (n : Node) → nextb d from n ≡ true → orderb before n ≡ false

-- The fault at n, as far as the head of the open nodes tells, or TAKEN.
unfoldable pub head_fault : List Node → Node → ℕ
head_fault [] n = TAKEN
head_fault (e ∷ es) n = cond (not (insideb n e)) CROSS (cond (not (ltb e.level n.level)) DEPTH TAKEN)

-- The fault at n, which comes next, as far as the chain that was open before it tells, or TAKEN.
unfoldable pub node_fault : List Node → Node → ℕ
node_fault s n = cond (levelb n) LEVEL (cond (spanb n) SPAN (head_fault (unended n s) n))

-- The same at any n, in document d.
unfoldable pub step_fault : ℕ → ℕ → List Node → Node → ℕ
step_fault d from s n = cond (levelb n) LEVEL (cond (spanb n) SPAN (cond (not (nextb d from n)) ORDER (head_fault (unended n s) n)))
