-- Function: `check_two` (src/two.rt).
-- Why it holds: Where the lists agree the answer is TAKEN. Otherwise the first list's own refusal
-- comes first, then the second's. Where both are taken, only JOINT is left.
-- What would break it: A list checked out of turn, or named wrongly, would be caught at its return.
use mathlib.Core.Path.{◌≡◌, refl, sym, ap, subst, ◌∙◌}
use mathlib.Core.Bool.{true, true≢false}
use Prim.Native.Nat.{ℕ}
use borrow.Author.Tests.{not-true, not-false}
use Rattle.std.proofs.Common.{rules}
use Rattle.std.specs.Prelude.{Result, Ok, Err, is_ok, MatchResult, IsErrAnd}
use Rattle.answers.specs.Answer.{TAKEN}
use Rattle.answers.specs.declared.refusal.Fault.{Fault}
use Rattle.std.proofs.lemmas.Result.{err_from_is_err_and}
use Rattle.answers.specs.declared.verdict.Verdict.{Verdict}
use Rattle.answers.specs.Refusal.{verdict_of, verdict_in}
use Rattle.answers.specs.Verdict.{in_list, DESCENDANTS}
use Rattle.answers.proofs.RefusalLaws.{never_taken}
use Rattle.answers.proofs.VerdictLaws.{not_taken, is_taken}
use Rattle.lists.proofs.Naming.{two_first, two_second, two_joint, two_taken}
use Rattle.lists.proofs.two.check_two.Goals as goal

abbrev number : Verdict → ℕ
number v = v.answer

-- A check that passes takes the list.
passes : (d : Result (Unit {0}) Fault) → is_ok d ≡ true → (verdict_in d).answer ≡ TAKEN
passes (Ok _) h = refl
passes (Err f) h = absurd (true≢false (sym h))

-- A fault f that comes of the check d of the descendants, where each fault is made to name them.
named : (d r : Result (Unit {0}) Fault) (Made : Fault → Fault → Type 0) → MatchResult d (λ x. r ≡ Ok x) (λ e. IsErrAnd r (Made e))
    → ((e f : Fault) → Made e f → verdict_of f ≡ in_list DESCENDANTS (verdict_of e)) → (f : Fault) → r ≡ Err f
    → ((verdict_in d).answer ≡ TAKEN → ⊥) × (verdict_of f ≡ in_list DESCENDANTS (verdict_in d))
named (Ok x) r Made h g f q = absurd (true≢false (ap (λ k. is_ok k) (sym h ∙ q)))
named (Err e) r Made h g f q = (never_taken e.refusal, g e f (subst (λ k. IsErrAnd k (Made e)) q h))

pub returns-then-are_agreeing : goal.returns-then-are_agreeing
returns-then-are_agreeing c =
    let a = c.args in
    two_taken a.ancestors.now a.descendants.now (is_taken _ (not-true _ (sym c.if-are_agreeing.ensures)))

pub returns-in_err-check_on : goal.returns-in_err-check_on
returns-in_err-check_on c =
    let a = c.args in
    let e = err_from_is_err_and _ c.from_residual.ensures.1 in
    let q = c.in_err-check_on.ensures in
    ap verdict_in e.1 ∙ ap verdict_of e.2 ∙ q ∙ two_first a.ancestors.now a.descendants.now (λ t. never_taken _ (ap number q ∙ t))

pub returns-in_err-map_err : goal.returns-in_err-map_err
returns-in_err-map_err c =
    let a = c.args in
    let e = err_from_is_err_and c.from_residual-in_err-map_err.result c.from_residual-in_err-map_err.ensures.1 in
    let q = c.check_on-2.ensures in
    let n = named c.check_on-2.result c.map_err.result _ c.map_err.ensures.cases (λ e f m. search rules) _ c.in_err-map_err.was in
    ap verdict_in e.1 ∙ ap verdict_of e.2 ∙ n.1 ∙ ap (in_list DESCENDANTS) q
    ∙ two_second a.ancestors.now a.descendants.now (sym (ap number c.in_ok-check_on.ensures)) (λ t. n.0 (ap number q ∙ t))

pub returns : goal.returns
returns c =
    let a = c.args in
    let p = passes c.check_on-2.result (sym c.in_ok-map_err.ensures.variant) in
    ap verdict_of c.into.ensures
    ∙ two_joint a.ancestors.now a.descendants.now (sym (ap number c.in_ok-check_on.ensures)) (sym (ap number c.check_on-2.ensures) ∙ p)
    (not_taken _ (not-false _ (sym c.if-are_agreeing.ensures)))
