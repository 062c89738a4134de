-- Why it holds: A check's answer is passed on with the reason of its fault alone. So it is a
-- refusal only where the check's is one, with the same number.
-- What would break it: Another reason passed on would be caught here.
use mathlib.Core.Path.{◌≡◌, refl, sym}
use Rattle.std.specs.Prelude.{Result, Ok, Err, MatchResult}
use Rattle.std.specs.Result.{IsErrAnd}
use Rattle.answers.specs.declared.refusal.Fault.{Fault}
use Rattle.answers.specs.declared.refusal.Refusal.{Refusal}

-- What was passed on of a check's answer.
abbrev pub Reasoned : {A : Type 0} → Result A Fault → Result A Refusal → Type 0
Reasoned checked passed = MatchResult checked (λ x. passed ≡ Ok x) (λ f. IsErrAnd passed (λ r. r ≡ f.refusal))

pub reason_ok : {A : Type 0} (checked : Result A Fault) (passed : Result A Refusal) → Reasoned checked passed
    → (x : A) → passed ≡ Ok x → checked ≡ Ok x
reason_ok (Ok y) passed h x q = cc
reason_ok (Err f) passed h x q = absurd (rw q at h)

pub reason_err : {A : Type 0} (checked : Result A Fault) (passed : Result A Refusal) → Reasoned checked passed
    → (r : Refusal) → passed ≡ Err r → (f : Fault) × (checked ≡ Err f) × (f.refusal ≡ r)
reason_err (Ok y) passed h r q = cc
reason_err (Err f) passed h r q = (f, refl, sym (rw q at h))
