-- Why it holds: A verdict is a refusal exactly when its answer isn't TAKEN, by definition.
-- What would break it: A refusal with the answer TAKEN, or any other verdict without it, would be
-- caught here.
use mathlib.Core.Path.{◌≡◌}
use mathlib.Core.Bool.{true, false}
use lib.Dec.{eqb}
use borrow.Author.Tests.{eqb-true, eqb-false, eq-eqb, ne_eqb}
use Rattle.laws.proofs.Tests.{not_read, not_none}
use Rattle.answers.specs.Answer.{TAKEN}
use Rattle.answers.specs.declared.verdict.Verdict.{Verdict}
use Rattle.answers.specs.Verdict.{refusedb}

module _ (v : Verdict) where
  pub refuses : (v.answer ≡ TAKEN → ⊥) → refusedb v ≡ true
  unfolding refusedb
  refuses h = rw (ne_eqb v.answer TAKEN h)

  pub accepts : v.answer ≡ TAKEN → refusedb v ≡ false
  unfolding refusedb
  accepts h = rw (eq-eqb v.answer TAKEN h)

  -- And the other way round.
  pub not_taken : refusedb v ≡ true → v.answer ≡ TAKEN → ⊥
  unfolding refusedb
  not_taken h = eqb-false v.answer TAKEN (not_read (eqb v.answer TAKEN) h)

  pub is_taken : refusedb v ≡ false → v.answer ≡ TAKEN
  unfolding refusedb
  is_taken h = eqb-true v.answer TAKEN (not_none (eqb v.answer TAKEN) h)
