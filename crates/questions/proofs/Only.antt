-- Why it holds: The public contract is an equation with a definition, and two things that equal a
-- third are equal. So no second answer satisfies it.
-- What would break it: A contract that left a field of a page or a word of the output open would be
-- caught here.
use mathlib.Core.Path.{◌≡◌}
use Rattle.laws.proofs.Only.{only}
use Rattle.questions.proofs.ask.ask.Reads as ask

pub ask_only : (κs : _) (a : _) (r r' : _) (s s' : _) → ask.Post κs a r s → ask.Post κs a r' s'
    → (r ≡ r') × (s.1.1.0.now ≡ s'.1.1.0.now)
ask_only κs a r r' s s' p q = (only p.answer q.answer, only p.output q.output)
