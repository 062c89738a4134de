-- Why it holds: The contract of each page call equates its answer and its output with definitions,
-- and two things that equal a third are equal.
-- What would break it: A contract that left a field of the answer or a word of the output open
-- would be caught here.
use mathlib.Core.Path.{◌≡◌}
use Rattle.laws.proofs.Only.{only}
use Rattle.pairs.proofs.jumping.jumping_page.Reads as jumping-page
use Rattle.pairs.proofs.page.next_page.Reads as next-page

pub next_page_only : (κs : _) (a : _) (r r' : _) (s s' : _) → next-page.Post κs a r s → next-page.Post κs a r' s'
    → (s.1.1.1.0.now ≡ s'.1.1.1.0.now) × (r ≡ r')
next_page_only κs a r r' s s' p q = (only p.output q.output, only p.answer q.answer)

pub jumping_page_only : (κs : _) (a : _) (r r' : _) (s s' : _) → jumping-page.Post κs a r s → jumping-page.Post κs a r' s'
    → (s.1.1.1.1.0.now ≡ s'.1.1.1.1.0.now) × (r ≡ r')
jumping_page_only κs a r r' s s' p q = (only p.output q.output, only p.answer q.answer)
