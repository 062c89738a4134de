-- The invariant of `put_unfilled`; Answers.antt says why it holds.
use mathlib.Core.List.{List}
use Prim.Native.Nat.{ℕ, ◌+◌, ◌≤◌}
use lib.ListN.{take}
use Rattle.lines.specs.declared.text.Writer.{Writer}
use Rattle.lines.specs.Line.{unfilled}
use Rattle.lines.specs.Private.Puts.{Puts}
use Rattle.lines.proofs.text.Writer.put_unfilled.Given as goal

-- The letters passed are put without their blanks.
pub record Passed (before : Writer) (letters : List ℕ) (index : ℕ) (after : Writer) : Type 0 where
  pub few : after.at ≤ before.at + index
  pub puts : Puts before (unfilled (take index letters)) after

abbrev pub invariant-loop-letter : goal.invariant-loop-letter
invariant-loop-letter l = Passed l.initial.self l.letters l.letter-index l.self
