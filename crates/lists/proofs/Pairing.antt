-- Why it holds: The check of two lists goes from one test to the next while nothing is wrong. So
-- TAKEN means that every test has passed.
-- What would break it: A test left out, or one whose answer were TAKEN, would be caught here.
use mathlib.Core.Path.{◌≡◌, refl}
use mathlib.Core.Logic.{◌↔◌, inl, inr}
use mathlib.Core.Bool.{Bool, true, false, cond}
use mathlib.Core.List.{List}
use Prim.Native.Nat.{ℕ}
use native.Mathlib.Omega.{arith}
use lib.Dec.{eqb}
use borrow.Author.Tests.{eqb-true, eqb-false, eq-eqb}
use Rattle.answers.specs.Answer.{TAKEN, JOINT}
use Rattle.nodes.specs.Words.{nodes}
use Rattle.laws.proofs.Tests.{either, never}
use Rattle.answers.specs.declared.verdict.Verdict.{Verdict}
use Rattle.lists.specs.Check.{check_words}
use Rattle.lists.specs.Two.{oddsb, check_two}
use Rattle.answers.specs.Verdict.{refusedb, in_list, ANCESTORS, verdict, taken}
use Rattle.laws.specs.Choose.{All}
use Rattle.lists.proofs.Merging.{joint_iff}

-- The check of two lists goes on past a list that is taken.
pub list_passes : (list : ℕ) (v w : Verdict) → ((cond (refusedb v) (in_list list v) w).answer ≡ TAKEN) ↔ ((v.answer ≡ TAKEN) × (w.answer ≡ TAKEN))
unfolding refusedb
list_passes list v w = (
  λ h. elim (either (eqb v.answer TAKEN)) [ inl e ↦ (eqb-true _ _ e, rw e at h) | inr e ↦ absurd (eqb-false v.answer TAKEN e (rw e at h)) ],
  λ h. rw (eq-eqb v.answer TAKEN h.0) h.1,
)

-- And past JOINT where no pair is at odds.
pub joint_passes : (b : Bool) → ((cond b (verdict JOINT ANCESTORS 0) taken).answer ≡ TAKEN) ↔ (b ≡ false)
joint_passes true = (λ h. absurd (omega arith), λ h. absurd (never refl h))
joint_passes false = (λ h. refl, λ h. refl)

-- Two lists are taken exactly when each is taken and no pair across is at odds.
pub two_taken_iff : (as' ds : List ℕ)
    → ((check_two as' ds).answer ≡ TAKEN) ↔ (((check_words as').answer ≡ TAKEN) × ((check_words ds).answer ≡ TAKEN)
    × All (λ x. All (λ y. oddsb x y ≡ false) (nodes ds)) (nodes as'))
unfolding check_two
two_taken_iff as' ds = (
  λ h. let p = (list_passes _ _ _).0 h in
      let q = (list_passes _ _ _).0 p.1 in
      (p.0, q.0, (joint_iff (nodes as') (nodes ds)).0 ((joint_passes _).0 q.1)),
  λ h. (list_passes _ _ _).1 (h.0, (list_passes _ _ _).1 (h.1, (joint_passes _).1 ((joint_iff (nodes as') (nodes ds)).1 h.2))),
)
