-- The invariant and the measure of `put_decimal`; Answers.antt says why they hold.
use mathlib.Core.Path.{◌≡◌}
use Prim.Native.Nat.{ℕ, ◌+◌, ◌≤◌}
use lib.ListN.{length}
use lib.Seq.{sets}
use Rattle.lines.specs.declared.text.Writer.{Writer}
use Rattle.lines.specs.Line.{decimal}
use Rattle.lines.proofs.text.Writer.put_decimal.Given as goal

-- The digits from the place `to` on are put, and those of `rest` are left.
pub record Left (before : Writer) (number : ℕ) (after : Writer) (rest to : ℕ) : Type 0 where
  pub same : after.text.ghost_name ≡ before.text.ghost_name
  pub here : after.at ≡ before.at
  pub less : rest ≤ number
  pub place : to ≡ before.at + length (decimal rest)
  pub room : to ≤ length after.text.now
  pub long : length after.text.now ≡ length before.text.now
  pub whole : sets after.text.now before.at (decimal rest) ≡ sets before.text.now before.at (decimal number)

abbrev pub invariant-loop-rest : goal.invariant-loop-rest
invariant-loop-rest l = Left l.initial.self l.number l.self l.rest l.to

abbrev pub decreases-loop-rest : goal.decreases-loop-rest
decreases-loop-rest l = l.rest
