-- Why it holds: Each public contract equates the answer with a definition, or the number of a
-- refusal and the node at fault. Two things that equal a third are equal, and the numbers tell all
-- of a refusal. So no second answer satisfies it.
-- What would break it: A contract that left a field of the answer or a word of the output open
-- would be caught here.
use mathlib.Core.Path.{◌≡◌}
use Rattle.answers.proofs.RefusalLaws.{verdict_only}
use Rattle.laws.proofs.Only.{only}
use Rattle.linked.proofs.check.check_links.Reads as check-links
use Rattle.linked.proofs.page.linked_page.Reads as linked-page
use Rattle.linked.proofs.page.list_linked.Reads as list-linked

pub check_links_only : (κs : _) (a : _) (r r' : _) (s s' : _) → check-links.Post κs a r s → check-links.Post κs a r' s' → r ≡ r'
check_links_only κs a r r' s s' p q = verdict_only r r' (only p q)

pub linked_page_only : (κs : _) (a : _) (r r' : _) (s s' : _) → linked-page.Post κs a r s → linked-page.Post κs a r' s'
    → (s.1.1.1.1.0.now ≡ s'.1.1.1.1.0.now) × (r ≡ r')
linked_page_only κs a r r' s s' p q = (only p.output q.output, only p.answer q.answer)

pub list_linked_only : (κs : _) (a : _) (r r' : _) (s s' : _) → list-linked.Post κs a r s → list-linked.Post κs a r' s'
    → (s.1.1.1.1.0.now ≡ s'.1.1.1.1.0.now) × (r ≡ r')
list_linked_only κs a r r' s s' p q = (only p.output q.output, only p.answer q.answer)
