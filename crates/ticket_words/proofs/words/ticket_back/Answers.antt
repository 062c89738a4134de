-- Function: `ticket_back` (src/words.rt).
-- Why it holds: The code tests the count as the definition does.
-- What would break it: Words that moved though nothing was written, or stayed though something was,
-- would be caught at the returns.
use borrow.Author.Tests.{eq-eqb, ne_eqb}
use Rattle.ticket_words.specs.Words.{ticket_back}
use Rattle.ticket_words.proofs.words.ticket_back.Goals as goal

pub returns-then-count-eq0 : goal.returns-then-count-eq0
unfolding ticket_back
returns-then-count-eq0 c = rw (eq-eqb _ 0 c.if-count-eq0.true)

pub returns : goal.returns
unfolding ticket_back
returns c = rw (ne_eqb _ 0 c.if-count-eq0.false) c.moved_to.ensures
