-- Function: `no_page` (src/ask.rt).
-- Why it holds: The verdict on nothing is TAKEN and names no node, and all else is 0.
-- What would break it: A number other than 0 would be caught at the return.
use mathlib.Core.Path.{ap, ◌∙◌}
use Rattle.answers.specs.declared.verdict.Verdict.{Verdict}
use Rattle.questions.specs.Question.{ticket_words}
use Rattle.questions.specs.Ask.{refused_page}
use Rattle.questions.proofs.ask.no_page.Goals as goal

pub returns : goal.returns
returns c =
    c.refused_page.ensures ∙ ap (λ (v : Verdict). refused_page v (ticket_words 0 0 0 0 0 0)) c.into.ensures
