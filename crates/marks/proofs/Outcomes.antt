-- Why it holds: A call is refused for its first fault, then for want of room. Only a call that is
-- taken writes and counts.
-- What would break it: A refusal with a count, or one that altered the output, would be caught
-- here. So would two answers of the way back that C could not tell apart.
use mathlib.Core.Path.{◌≡◌, refl, sym, ap, ◌∙◌}
use mathlib.Core.List.{List}
use Prim.Native.Nat.{ℕ}
use Rattle.std.specs.Prelude.{Result, Ok, Err}
use Rattle.answers.specs.Answer.{TAKEN}
use Rattle.answers.specs.Output.{written, answer_of, output_of}
use Rattle.answers.proofs.OutputLaws.{if_taken_lem, if_refused}
use Rattle.answers.specs.declared.refusal.Refusal.{Refusal}
use Rattle.answers.proofs.RefusalLaws.{never_taken, number_only}
use Rattle.marks.specs.declared.unnumber.Marked.{Marked}
use Rattle.marks.specs.declared.unnumber.Unnumbered.{Unnumbered}
use Rattle.marks.specs.Outcome.{outcome, outcome_of, unnumbered_in}

-- What the two calls that count their result answer and write.
module _ (fault : ℕ) (result out : List ℕ) (count : ℕ) where
  pub all_refused : (answer : ℕ) → answer_of fault result out ≡ answer → (answer ≡ TAKEN → ⊥)
      → (outcome answer 0 ≡ outcome_of fault result out count) × (out ≡ output_of fault result out)
  unfolding outcome_of output_of
  all_refused answer e h =
      let n : answer_of fault result out ≡ TAKEN → ⊥ = λ z. h (sym e ∙ z) in
      (rw (e, if_refused fault result out count 0 n) refl, sym (if_refused fault result out (written result out) out n))

  pub all_written : answer_of fault result out ≡ TAKEN
      → (outcome TAKEN count ≡ outcome_of fault result out count) × (written result out ≡ output_of fault result out)
  unfolding outcome_of output_of
  all_written e = (rw (e, if_taken_lem fault result out count 0 e) refl, sym (if_taken_lem fault result out (written result out) out e))

abbrev number : Unnumbered → ℕ
number u = u.answer

-- The three fields tell all of the answer of a way back.
pub unnumbered_only : (r r' : Result Marked Refusal) → unnumbered_in r ≡ unnumbered_in r' → r ≡ r'
unnumbered_only (Ok m) (Ok m') q =
    ap (λ (u : Unnumbered). Ok (marked u.document u.count)) q
  where
    marked : ℕ → ℕ → Marked
    marked document count = record { document = document; count = count }
unnumbered_only (Ok m) (Err r) q = absurd (never_taken r (sym (ap number q)))
unnumbered_only (Err r) (Ok m) q = absurd (never_taken r (ap number q))
unnumbered_only (Err r) (Err r') q = ap (λ x. Err x) (number_only r r' (ap number q))
