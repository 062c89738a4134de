-- Why it holds: Each contract equates the answer and the text with definitions, and two things that
-- equal a third are equal.
-- What would break it: A contract that left the answer or a byte of the text open would be caught
-- here.
use mathlib.Core.Path.{◌≡◌}
use Rattle.laws.proofs.Only.{only}
use Rattle.lines.proofs.line.put_lines.Reads as put-lines
use Rattle.lines.proofs.line.put_refusal.Reads as put-refusal
use Rattle.lines.proofs.line.put_total.Reads as put-total

pub put_lines_only : (κs : _) (a : _) (r r' : _) (s s' : _) → put-lines.Post κs a r s → put-lines.Post κs a r' s'
    → (s.1.0.now ≡ s'.1.0.now) × (r ≡ r')
put_lines_only κs a r r' s s' p q = (only p.text q.text, only p.length q.length)

pub put_total_only : (κs : _) (a : _) (r r' : _) (s s' : _) → put-total.Post κs a r s → put-total.Post κs a r' s'
    → (s.1.0.now ≡ s'.1.0.now) × (r ≡ r')
put_total_only κs a r r' s s' p q = (only p.text q.text, only p.length q.length)

pub put_refusal_only : (κs : _) (a : _) (r r' : _) (s s' : _) → put-refusal.Post κs a r s → put-refusal.Post κs a r' s'
    → (s.1.0.now ≡ s'.1.0.now) × (r ≡ r')
put_refusal_only κs a r r' s s' p q = (only p.text q.text, only p.length q.length)
