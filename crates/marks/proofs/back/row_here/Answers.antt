-- Function: `row_here` (src/back.rt).
-- Why it holds: A text ends where it starts and an element at the innermost close. The level is one
-- more than elements are open before.
-- What would break it: The close of an element around it, or a level one off, would be caught at
-- its return.
use mathlib.Core.Path.{◌≡◌, refl}
use mathlib.Core.List.{List}
use Prim.Native.Nat.{ℕ, ◌+◌, ◌-◌}
use native.Mathlib.Omega.{arith}
use lib.ListN.{get_or}
use borrow.Author.Tests.{eq-eqb, ne_eqb}
use Rattle.nodes.specs.Words.{node}
use Rattle.marks.specs.Mark.{TEXT}
use Rattle.marks.specs.Table.{row}
use Rattle.marks.specs.Private.Walk.{open_before, row_here}
use Rattle.marks.proofs.Keeping.{before_low}
use Rattle.marks.proofs.back.row_here.Goals as goal

module _ (document position : ℕ) (kept : List ℕ) (depth mark before : ℕ) (e : before ≡ open_before depth mark) where
  text_row : mark ≡ TEXT → row (node document position position (before + 1)) mark ≡ row_here document position kept depth mark
  unfolding row_here
  text_row h = rw (eq-eqb mark TEXT h, e) refl

  element_row : (mark ≡ TEXT → ⊥)
      → row (node document position (get_or kept (depth - 1) 0) (before + 1)) mark ≡ row_here document position kept depth mark
  unfolding row_here
  element_row h = rw (ne_eqb mark TEXT h, e) refl

pub overflow_cast-level : goal.overflow_cast-level
overflow_cast-level c = let low = before_low c.args.depth c.args.mark c.requires.0 in omega (arith, c.open_before.ensures)

pub overflow_add-level : goal.overflow_add-level
overflow_add-level c = let low = before_low c.args.depth c.args.mark c.requires.0 in omega (arith, c.open_before.ensures)

pub returns-then-mark-eq-TEXT : goal.returns-then-mark-eq-TEXT
returns-then-mark-eq-TEXT c = text_row _ _ _ _ _ _ c.open_before.ensures c.if-mark-eq-TEXT.true

pub overflow_sub-end : goal.overflow_sub-end
overflow_sub-end c = let deep = c.requires.1 c.if-mark-eq-TEXT.false in omega (arith, deep)

pub returns-else-mark-eq-TEXT : goal.returns-else-mark-eq-TEXT
returns-else-mark-eq-TEXT c = element_row _ _ _ _ _ _ c.open_before.ensures c.if-mark-eq-TEXT.false
