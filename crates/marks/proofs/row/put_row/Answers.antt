-- Function: `put_row` (src/row.rt).
-- Why it holds: The five stores, one after the other, are those of the row's words.
-- What would break it: A word stored one off would be caught at the return.
use mathlib.Core.Path.{◌≡◌}
use mathlib.Core.List.{List}
use Prim.Native.Nat.{ℕ, ◌+◌}
use native.Mathlib.Numerals.{towards_suc}
use lib.ListN.{set}
use lib.Seq.{sets}
use Rattle.nodes.specs.Words.{words_of}
use Rattle.marks.specs.declared.row.Row.{Row}
use Rattle.marks.specs.Table.{row_words}
use Rattle.marks.proofs.row.put_row.Goals as goal

five_stores : (ws : List ℕ) (at : ℕ) (r : Row)
    → set (set (set (set (set ws at r.node.document) (at + 1) r.node.start) (at + 2) r.node.end) (at + 3) r.node.level)
    (at + 4) r.tag ≡ sets ws at (row_words r)
unfolding row_words words_of
five_stores ws at r = simp towards_suc

pub returns : goal.returns
returns c = five_stores _ _ _
