-- The invariant of `reads_back`; Answers.antt says why they hold.
use mathlib.Core.Path.{◌≡◌}
use mathlib.Core.List.{List}
use Prim.Native.Nat.{ℕ, ◌≤◌}
use lib.ListN.{length}
use Rattle.nodes.specs.Node.{MOST_LEVELS}
use Rattle.marks.specs.declared.mark.MarkPlace.{MarkPlace}
use Rattle.marks.specs.declared.row.Row.{Row}
use Rattle.marks.specs.Table.{rows}
use Rattle.marks.specs.Private.Walk.{reads_back, all_read_back}
use Rattle.marks.proofs.unnumber.reads_back.Given as goal

-- A walk back that has reached a place, where the table is that of `rs`.
pub record Reads (rs : List Row) (document last : ℕ) (kept : List ℕ) (q : MarkPlace) (position : ℕ) : Type 0 where
  pub low : q.depth ≤ MOST_LEVELS
  pub few : q.rows ≤ length rs
  pub same : reads_back rs document position kept q ≡ all_read_back rs document last

abbrev pub invariant-loop-before : goal.invariant-loop-before
invariant-loop-before l = Reads (rows l.table) l.document l.last l.closes l.place l.before
