-- Function: `mark_here` (src/unnumber.rt).
-- Why it holds: The last of the rows tells its tag if it starts at the position. Any other position
-- is a close's.
-- What would break it: A tag told at another row's start, or with no row left, would be caught at
-- its return.
use mathlib.Core.Path.{◌≡◌, sym, ap, ◌∙◌}
use mathlib.Core.List.{List}
use Prim.Native.Nat.{ℕ, ◌-◌, ◌<◌}
use native.Mathlib.Omega.{arith}
use Rattle.marks.specs.declared.row.Row.{Row}
use Rattle.marks.specs.Mark.{CLOSE}
use Rattle.marks.specs.Table.{row_in}
use Rattle.marks.specs.Private.Walk.{mark_here}
use Rattle.marks.proofs.ReadBack.{told_close, told_tag}
use Rattle.marks.proofs.unnumber.mark_here.Goals as goal

module _ (rs : List Row) (count position : ℕ) where
  none_left : count ≡ 0 → CLOSE ≡ mark_here rs count position
  none_left h = sym (told_close rs count position (λ l. absurd (omega arith)))

  module _ (last : Row) (q : last ≡ row_in rs (count - 1)) where
    elsewhere : (last.node.start ≡ position → ⊥) → CLOSE ≡ mark_here rs count position
    elsewhere h = sym (told_close rs count position (λ l e. h (ap (λ r. r.node.start) q ∙ e)))

    starts : 0 < count → last.node.start ≡ position → last.tag ≡ mark_here rs count position
    starts l h = ap (λ r. r.tag) q ∙ sym (told_tag rs count position l (sym (ap (λ r. r.node.start) q) ∙ h))

pub returns-then-count-eq0 : goal.returns-then-count-eq0
returns-then-count-eq0 c = none_left _ _ _ c.if-count-eq0.true

pub returns-then-last-position : goal.returns-then-last-position
returns-then-last-position c = elsewhere _ _ _ _ c.row_at-last.ensures c.if-last-position.true

pub returns : goal.returns
returns c = starts _ _ _ _ c.row_at-last.ensures (omega arith) (omega arith)
