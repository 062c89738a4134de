-- Function: `is_numbered` (src/unnumber.rt).
-- Why it holds: A table has a row and at most 4,096 marks. Rows like these are a table exactly
-- where they read back.
-- What would break it: An empty table taken, or a root's end beyond the limit, would be caught at
-- its return.
use mathlib.Core.Path.{◌≡◌, sym, ◌∙◌}
use mathlib.Core.Bool.{Bool, false}
use mathlib.Core.List.{List}
use Prim.Native.Nat.{ℕ, ◌/◌, ◌≤◌, ◌<◌}
use native.Mathlib.Omega.{arith}
use lib.ListN.{length}
use Rattle.nodes.specs.Words.{MOST_NODES}
use Rattle.laws.proofs.Tests.{not_so}
use Rattle.marks.specs.declared.row.Row.{Row}
use Rattle.marks.specs.Back.{document_of, numberedb}
use Rattle.marks.specs.Table.{ROW_WORDS, rows, row_in}
use Rattle.marks.specs.Private.Walk.{all_read_back}
use Rattle.marks.proofs.ReadBack.{table_tells, reads_back_lem}
use Rattle.marks.proofs.RowLaws.{length_rows}
use Rattle.marks.proofs.unnumber.is_numbered.Goals as goal

module _ (ws : List ℕ) where
  no_rows : length ws / ROW_WORDS ≡ 0 → false ≡ numberedb (rows ws)
  no_rows h = sym (not_so (λ n. omega (arith, (table_tells (rows ws) n).0, length_rows ws)))

  module _ (root : Row) (q : root ≡ row_in (rows ws) 0) where
    too_long : MOST_NODES < root.node.end → false ≡ numberedb (rows ws)
    too_long h =
        let m : MOST_NODES < (row_in (rows ws) 0).node.end = rw (← q) h in
        sym (not_so (λ n. let l = (table_tells (rows ws) n).1 in omega arith))

    read : 0 < length ws / ROW_WORDS → root.node.end ≤ MOST_NODES → (b : Bool) → b ≡ all_read_back (rows ws) root.node.document root.node.end
        → b ≡ numberedb (rows ws)
    unfolding document_of
    read s l b e =
        let m : (row_in (rows ws) 0).node.end ≤ MOST_NODES = rw (← q) l in
        (rw q at e) ∙ reads_back_lem (rows ws) (omega (arith, length_rows ws)) m

pub returns-then-row_count-eq0 : goal.returns-then-row_count-eq0
returns-then-row_count-eq0 c = no_rows _ (omega arith)

pub returns-then-root-gt-MOST_NODES : goal.returns-then-root-gt-MOST_NODES
returns-then-root-gt-MOST_NODES c = too_long _ _ c.row_at-root.ensures (omega arith)

pub returns : goal.returns
returns c = read _ _ c.row_at-root.ensures (omega arith) (omega arith) _ c.reads_back.ensures
