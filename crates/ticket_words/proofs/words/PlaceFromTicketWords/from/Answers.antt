-- Function: `from` of `Place` (src/words.rt).
-- Why it holds: The code tests the number as the definition does, and the key has the three words
-- that follow.
-- What would break it: A fresh ticket read as placed, or two numbers of the key swapped, would be
-- caught at the returns.
use borrow.Author.Tests.{eq-eqb, ne_eqb}
use Rattle.ticket_words.specs.Words.{place_of}
use Rattle.ticket_words.proofs.words.PlaceFromTicketWords.from.Goals as goal

pub returns-then-words-eq0 : goal.returns-then-words-eq0
unfolding place_of
returns-then-words-eq0 c = rw (eq-eqb _ 0 c.if-words-eq0.true)

pub returns : goal.returns
unfolding place_of
returns c = rw (ne_eqb _ 0 c.if-words-eq0.false)
