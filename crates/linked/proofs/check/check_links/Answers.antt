-- Function: `check_links` (src/check.rt).
-- Why it holds: The links are looked at only if the list is accepted, and then the test tells
-- whether they are the list's.
-- What would break it: A refused list answered with LINKS, or wrong links taken, would be caught at
-- its return.
use Prim.Native.Nat.{ℕ}
use mathlib.Core.Path.{sym, ap, ◌∙◌}
use Rattle.std.proofs.lemmas.Result.{err_from_is_err_and}
use Rattle.answers.specs.declared.verdict.Verdict.{Verdict}
use Rattle.answers.specs.Refusal.{verdict_of, verdict_in}
use Rattle.answers.proofs.RefusalLaws.{never_taken}
use Rattle.linked.proofs.Answered.{links_own, links_right, links_wrong}
use Rattle.linked.proofs.check.check_links.Goals as goal

abbrev number : Verdict → ℕ
number v = v.answer

pub returns-in_err-check_list : goal.returns-in_err-check_list
returns-in_err-check_list c =
    let a = c.args in
    let e = err_from_is_err_and _ c.from_residual.ensures.1 in
    let q = c.in_err-check_list.ensures in
    ap verdict_in e.1 ∙ ap verdict_of e.2 ∙ q ∙ sym (links_own a.list.now a.links.now (λ t. never_taken _ (ap number q ∙ t)))

pub returns-then-are_links : goal.returns-then-are_links
returns-then-are_links c =
    let a = c.args in
    let q = c.in_ok-check_list.ensures in
    let t = sym (ap number q) in
    q ∙ sym (links_right a.list.now a.links.now t (sym (c.are_links.ensures t) ∙ c.if-are_links.true))

pub returns : goal.returns
returns c =
    let a = c.args in
    let t = sym (ap number c.in_ok-check_list.ensures) in
    ap verdict_of c.into.ensures ∙ sym (links_wrong a.list.now a.links.now t (sym (c.are_links.ensures t) ∙ c.if-are_links.false))
