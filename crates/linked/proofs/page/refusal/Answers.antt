-- Function: `refusal` (src/page.rt).
-- Why it holds: The fault of the two lists is returned if there is one, and LINKS otherwise.
-- What would break it: LINKS before the fault of the lists would be caught at the first return.
use mathlib.Core.Path.{◌≡◌, refl, sym, ap, ◌∙◌}
use mathlib.Core.Bool.{cond}
use Rattle.answers.specs.declared.refusal.Fault.{Fault}
use Rattle.answers.specs.declared.verdict.Verdict.{Verdict}
use Rattle.answers.specs.Refusal.{verdict_of}
use Rattle.answers.specs.Verdict.{refusedb, taken}
use Rattle.answers.proofs.RefusalLaws.{fault_refuses}
use Rattle.answers.proofs.VerdictLaws.{accepts}
use Rattle.linked.specs.Check.{unlinked}
use Rattle.linked.proofs.page.refusal.Goals as goal

-- The verdict on the lists, by whether they have a fault.
module _ (checked : Verdict) where
  own : (f : Fault) → verdict_of f ≡ checked → verdict_of f ≡ cond (refusedb checked) checked unlinked
  own f q = q ∙ rw (ap refusedb (sym q) ∙ fault_refuses f) refl

  links : taken ≡ checked → (w : Verdict) → w ≡ unlinked → w ≡ cond (refusedb checked) checked unlinked
  links q w e = e ∙ rw (accepts checked (ap (λ v. v.answer) (sym q))) refl

pub returns-in-Err : goal.returns-in-Err
returns-in-Err c = own _ _ c.in-Err.ensures

pub returns-in-Ok : goal.returns-in-Ok
returns-in-Ok c = links _ c.in-Ok.ensures _ (ap verdict_of c.into.ensures)
