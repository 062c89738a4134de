-- Function: `page_after` (src/page.rt).
-- Why it holds: A refused call returns before anything is written. An accepted one serves what
-- remains, and what was served is the page.
-- What would break it: A call that is done although its room ran out, or that moves no place, would
-- be caught at a return. So would one that touches a refused output.
use mathlib.Core.Path.{refl, sym, ap, ◌∙◌}
use native.Mathlib.Omega.{arith}
use Rattle.answers.proofs.RefusalLaws.{never_taken}
use Rattle.answers.specs.Verdict.{taken}
use Rattle.pairs.proofs.Paged.{lists_taken, page_refused, written_in, page_made}
use Rattle.pairs.proofs.page.page_after.Goals as goal

pub returns-in-Err : goal.returns-in-Err
returns-in-Err g c =
    let q = c.into.ensures in
    page_refused _ _ _ _ _ (q ∙ c.in-Err.ensures) (λ h. never_taken c.in-Err.fault.refusal (sym (ap (λ v. v.answer) q) ∙ h))

pub sweep-handed-requires : goal.sweep-handed-requires
sweep-handed-requires g c = lists_taken _ _ taken c.in_default.ensures refl

pub ticket_after-requires : goal.ticket_after-requires
ticket_after-requires g c =
    let a = c.args in
    let few = written_in a.ancestors.now a.descendants.now a.ticket a.out.now _ _ _ c.sweep-handed.ensures in
    omega (arith, few)

pub returns : goal.returns
returns g c =
    page_made _ _ _ _ _ _ _ c.sweep-handed.ensures taken c.in_default.ensures refl _ _ c.into-2.ensures c.ticket_after.ensures
