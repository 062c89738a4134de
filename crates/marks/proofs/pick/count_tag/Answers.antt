-- Function: `count_tag` (src/pick.rt).
-- Why it holds: The count is that of the rows passed, and each row with the tag adds one.
-- What would break it: A row of another tag counted, or the last row passed over, would be caught
-- at the loop or at the return.
use mathlib.Core.Path.{◌≡◌, sym, ap, ◌∙◌}
use mathlib.Core.List.{List, [], ◌∷◌}
use Prim.Native.Nat.{ℕ, ◌+◌, ◌/◌, ◌<◌}
use native.Mathlib.Omega.{arith}
use lib.ListN.{length, length-append}
use Rattle.marks.specs.declared.row.Row.{Row}
use Rattle.marks.specs.Table.{ROW_WORDS, rows, row_in}
use Rattle.marks.proofs.Picking.{firsts_with, firsts_none, firsts_few, firsts_all, firsts_yes, firsts_no}
use Rattle.marks.proofs.pick.count_tag.Goals as goal
use Rattle.marks.proofs.pick.count_tag.Goals.{then-row-tag, else-row-tag}

module _ (tag : ℕ) (table : List ℕ) (index : ℕ) (h : index < length table / ROW_WORDS) (r : Row) (e : r ≡ row_in (rows table) index) {found : ℕ}
    (f : found ≡ length (firsts_with tag table index)) where
  counted_yes : r.tag ≡ tag → found + 1 ≡ length (firsts_with tag table (index + 1))
  counted_yes k = rw (firsts_yes tag table index h r e k) (omega (arith, length-append (firsts_with tag table index) (r.node ∷ [])))

  counted_no : (r.tag ≡ tag → ⊥) → found ≡ length (firsts_with tag table (index + 1))
  counted_no k = rw (firsts_no tag table index h r e k) f

pub loop-index-init : goal.loop-index-init
loop-index-init c = let a = c.args in sym (ap length (firsts_none a.tag a.table.now))

pub overflow_add-found : goal.overflow_add-found
overflow_add-found c =
    let a = c.args in
    let l = c.loop-index in
    omega (arith, firsts_few a.tag a.table.now l.index, l.invariant)

pub loop-index-preserved : goal.loop-index-preserved
loop-index-preserved c =
    let l = c.loop-index in
    let a = c.args in
    let q = c.row_at-row.ensures in
    elim c.if-row-tag.branch [
      | then-row-tag w ↦ w.found-is ∙ counted_yes a.tag a.table.now l.index (omega arith) _ q l.invariant w.if-row-tag.true
      | else-row-tag w ↦ w.found-is ∙ counted_no a.tag a.table.now l.index (omega arith) _ q l.invariant w.if-row-tag.false
    ]

pub returns : goal.returns
returns c =
    let a = c.args in
    let l = c.loop-index in
    l.invariant ∙ ap length (firsts_all a.tag a.table.now l.index (omega arith))
