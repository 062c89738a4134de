-- The invariant of `copy_numbers`; Answers.antt says why it holds.
use mathlib.Core.Path.{◌≡◌}
use lib.ListN.{length, take}
use Rattle.answers.specs.Output.{written}
use Rattle.numbers.specs.Little.{numbers}
use Rattle.numbers.proofs.part.copy_numbers.Given as goal

abbrev pub invariant-loop-index : goal.invariant-loop-index
invariant-loop-index l =
    (length l.words ≡ length l.initial.words) × (l.words ≡ written (take l.index (numbers l.bytes)) l.initial.words)
