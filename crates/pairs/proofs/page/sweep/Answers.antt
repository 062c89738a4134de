-- Function: `sweep` (src/page.rt).
-- Why it holds: The ticket's order decides which sweep runs. The sweep serves what remains for
-- every place for which it begins as it did, and for the ticket's place it begins so.
-- What would break it: A sweep in the other order, or one that begins elsewhere, would be caught at
-- its return.
use borrow.Author.Rules.{rules}
use Rattle.pairs.proofs.Paged.{in_order}
use Rattle.pairs.proofs.page.sweep.Goals as goal

pub returns-in-Descendant : goal.returns-in-Descendant
returns-in-Descendant g c = search (rules, in_order)

pub returns-in-Ancestor : goal.returns-in-Ancestor
returns-in-Ancestor g c = search (rules, in_order)
