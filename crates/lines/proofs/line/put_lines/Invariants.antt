-- The invariant of `put_lines`; Answers.antt says why it holds.
use mathlib.Core.Path.{◌≡◌}
use mathlib.Core.List.{List}
use Prim.Native.Nat.{ℕ, ◌*◌, ◌≤◌}
use Rattle.lines.specs.declared.text.Writer.{Writer}
use Rattle.lines.specs.Line.{LINE_BYTES}
use Rattle.lines.specs.Private.Puts.{Puts}
use Rattle.lines.proofs.PairLines.{first_lines}
use Rattle.lines.proofs.line.put_lines.Given as goal

-- The lines of the first `index` pairs are put at the beginning.
pub record Lined (pairs : List ℕ) (before : Writer) (index : ℕ) (after : Writer) : Type 0 where
  pub few : after.at ≤ LINE_BYTES * index
  pub puts : Puts before (first_lines pairs index) after

abbrev pub invariant-loop-index : goal.invariant-loop-index
invariant-loop-index l = record {
  same : l.writer.text.ghost_name ≡ l.initial.writer.text.ghost_name;
  lined : Lined l.pairs l.initial.writer l.index l.writer;
}
