-- The invariant of `refuse_all`; Answers.antt says why it holds.
use mathlib.Core.Path.{◌≡◌}
use mathlib.Core.List.{List}
use Prim.Native.Nat.{ℕ}
use lib.ListN.{take}
use Rattle.answers.specs.declared.verdict.Verdict.{Verdict}
use Rattle.ticket_words.specs.declared.page.PageWords.{PageWords}
use Rattle.questions.specs.Ask.{refused_pages, padded}
use Rattle.questions.specs.Question.{questions_in}
use Rattle.questions.proofs.ask.refuse_all.Given as goal

-- The pages of all questions of `words`, refused for the verdict `v`.
abbrev pub whole : List ℕ → Verdict → List PageWords
whole words v = refused_pages v (questions_in words)

abbrev pub invariant-loop-index : goal.invariant-loop-index
invariant-loop-index l = l.pages ≡ padded (take l.index (whole l.questions l.verdict))
