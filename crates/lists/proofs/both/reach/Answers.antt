-- Function: `reach` (src/both.rt).
-- Why it holds: The document of the node there and its start tell whether it comes next.
-- What would break it: A node of an earlier document let through, or a start before `from`, would
-- be caught at the returns.
use mathlib.Core.Path.{refl}
use mathlib.Core.Logic.{inl, inr}
use Prim.Native.Nat.{◌+◌}
use native.Mathlib.Omega.{arith}
use Rattle.lists.specs.Private.Walk.{node_from}
use Rattle.lists.proofs.Keeping.{next_passed, next_begun}
use Rattle.lists.proofs.both.reach.Goals as goal

pub returns-then-words-at : goal.returns-then-words-at
returns-then-words-at c = (refl, refl, c.requires.1, inl (refl, λ l. absurd (omega arith)))

pub returns-then-words-at-3 : goal.returns-then-words-at-3
unfolding node_from
returns-then-words-at-3 c = (omega arith, next_passed _ _ _ (omega arith))

pub returns-then-words-at-2 : goal.returns-then-words-at-2
unfolding node_from
returns-then-words-at-2 c = (refl, refl, c.requires.1, inl (refl, λ l. omega arith))

pub returns-then-start-from : goal.returns-then-start-from
unfolding node_from
returns-then-start-from c = (omega arith, next_begun _ _ _ (omega arith) (omega arith))

pub returns : goal.returns
unfolding node_from
returns c =
    let a = c.args in
    (refl, refl, omega arith, inr (omega arith, omega (arith, c.type_inv.words (a.at + 1)), omega arith, refl))
