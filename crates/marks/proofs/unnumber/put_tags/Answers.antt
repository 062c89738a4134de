-- Function: `put_tags` (src/unnumber.rt).
-- Why it holds: The tags from the index on, put into the output, give the same as all tags put into
-- the output as it was.
-- What would break it: A tag put one mark off, or a row passed over, would be caught at the next
-- turn.
use borrow.Author.Rules.{rules}
use mathlib.Core.Path.{◌≡◌, refl, ◌∙◌}
use mathlib.Core.List.{List}
use Prim.Native.Nat.{ℕ, ◌+◌, ◌-◌, ◌/◌, ◌≤◌, ◌<◌}
use native.Mathlib.Omega.{arith}
use lib.ListN.{length, drop, set, length-set}
use Rattle.laws.specs.Choose.{All}
use Rattle.marks.specs.declared.row.Row.{Row}
use Rattle.marks.specs.Back.{tagged}
use Rattle.marks.specs.Table.{ROW_WORDS, rows, row_in}
use Rattle.marks.proofs.RowLaws.{length_rows, rows_from_lem, rows_beyond}
use Rattle.marks.proofs.Tagging.{Within, within_at}
use Rattle.marks.proofs.unnumber.put_tags.Goals as goal

-- A row read at an index starts within the output.
starts_in : (count : ℕ) (ws : List ℕ) (i : ℕ) (r : Row) → r ≡ row_in (rows ws) i → All (Within count) (rows ws)
    → i < length ws / ROW_WORDS → Within count r
starts_in count ws i r e a h = rw e (within_at count (rows ws) i a (omega (arith, length_rows ws)))

-- One tag more is put.
put_on : (ws out : List ℕ) (i : ℕ) (r : Row) → r ≡ row_in (rows ws) i → i < length ws / ROW_WORDS
    → tagged (drop (i + 1) (rows ws)) (set out (r.node.start - 1) r.tag) ≡ tagged (drop i (rows ws)) out
unfolding tagged
put_on ws out i r e h = rw (rows_from_lem ws i h, e) refl

put_all : (ws out : List ℕ) (i : ℕ) → length ws / ROW_WORDS ≤ i → out ≡ tagged (drop i (rows ws)) out
unfolding tagged
put_all ws out i h = rw (rows_beyond ws i h) refl

pub loop-index-init : goal.loop-index-init
loop-index-init c = (refl, refl)

pub overflow_sub-out : goal.overflow_sub-out
overflow_sub-out c =
    let w = starts_in _ _ _ _ c.row_at-row.ensures c.requires (omega arith) in
    omega (arith, w.0)

pub offset_bounds-out-row : goal.offset_bounds-out-row
offset_bounds-out-row c =
    let w = starts_in _ _ _ _ c.row_at-row.ensures c.requires (omega arith) in
    let s = w.0 in let t = w.1 in search rules

pub bounds-out-row : goal.bounds-out-row
bounds-out-row c =
    let w = starts_in _ _ _ _ c.row_at-row.ensures c.requires (omega arith) in
    omega (arith, w.0, w.1)

pub loop-index-preserved : goal.loop-index-preserved
loop-index-preserved c =
    let l = c.loop-index in
    (length-set l.out _ _ ∙ l.invariant.0, put_on _ l.out l.index _ c.row_at-row.ensures (omega arith) ∙ l.invariant.1)

pub returns : goal.returns
returns c =
    let l = c.loop-index in
    put_all _ l.out l.index (omega arith) ∙ l.invariant.1
