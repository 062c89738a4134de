-- The invariant of `answer_all`; Answers.antt says why it holds.
use mathlib.Core.Path.{◌≡◌}
use lib.ListN.{length}
use Rattle.questions.proofs.Turns.{Turn}
use Rattle.questions.proofs.ask.answer_all.Given as goal

abbrev pub invariant-loop-index : goal.invariant-loop-index
invariant-loop-index l =
    (length l.first ≡ length l.initial.first) × (length l.second ≡ length l.initial.second) × Turn l.book l.questions l.initial.out l.out l.pages l.from l.index
