-- Function: `named_after` (src/jump.rt).
-- Why it holds: At each turn, the links of the ancestor at `i` lie in the words, as `i` only falls.
-- What is returned is nothing, or the words of whole nodes.
-- Measure: `i`, the index of the ancestor whose links are read.
-- What would break it: A walk to a parent that isn't earlier would be caught at the next turn, and
-- a word inside a node at the return.
use Prim.Native.Nat.{◌+◌, ◌*◌}
use native.Mathlib.Omega.{arith}
use Rattle.pairs.proofs.jump.named_after.Goals as goal

pub loop-i-init : goal.loop-i-init
loop-i-init c = c.requires

pub overflow_cast-parent : goal.overflow_cast-parent
overflow_cast-parent c = omega (arith, c.type_inv.links (3 * c.loop-i.i))

pub overflow_cast-result : goal.overflow_cast-result
overflow_cast-result c = omega (arith, c.type_inv.links (3 * c.loop-i.i + 2))

pub overflow_mul-result-2 : goal.overflow_mul-result-2
overflow_mul-result-2 c = omega (arith, c.type_inv.links (3 * c.loop-i.i + 2))
