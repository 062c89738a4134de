-- Why it holds: Each refusal has a number of its own, and none has TAKEN's. So a number tells which
-- refusal it is, and whether there is one.
-- What would break it: Two refusals of one number, or one with the number 0, would be caught here.
use mathlib.Core.Path.{◌≡◌, refl, sym, ap, ◌∙◌}
use mathlib.Core.Bool.{cond, true}
use Prim.Native.Nat.{ℕ, ◌≤◌}
use native.Mathlib.Omega.{arith}
use lib.Dec.{eqb}
use Rattle.std.specs.Prelude.{Result, Ok, Err}
use Rattle.answers.specs.declared.refusal.Refusal.{Refusal}
use Rattle.answers.specs.declared.refusal.Refusal.TheVariants.{Ragged, Long, Level, Span, Order, Cross, Depth, Joint, Room, Mark, Stray, Deep, Unclosed, Table, Contents, Absent, Reading, Links}
use Rattle.answers.specs.declared.refusal.Fault.{Fault}
use Rattle.answers.specs.declared.verdict.Verdict.{Verdict}
use Rattle.answers.specs.declared.verdict.Counted.{Counted}
use Rattle.answers.specs.Answer.{TAKEN, RAGGED, LONG, LEVEL, SPAN, ORDER, CROSS, DEPTH, JOINT, ROOM, MARK, STRAY, DEEP, UNCLOSED, TABLE, CONTENTS, ABSENT, READING}
use Rattle.answers.specs.Refusal.{number_of, fault, answer_in, verdict_of, verdict_in, counted_in}
use Rattle.answers.specs.Verdict.{refusedb}
use Rattle.answers.proofs.VerdictLaws.{refuses}

-- No refusal has TAKEN's number.
pub number_above : (r : Refusal) → 1 ≤ number_of r
number_above Ragged = omega arith
number_above Long = omega arith
number_above Level = omega arith
number_above Span = omega arith
number_above Order = omega arith
number_above Cross = omega arith
number_above Depth = omega arith
number_above Joint = omega arith
number_above Room = omega arith
number_above Mark = omega arith
number_above Stray = omega arith
number_above Deep = omega arith
number_above Unclosed = omega arith
number_above Table = omega arith
number_above Contents = omega arith
number_above Absent = omega arith
number_above Reading = omega arith
number_above Links = omega arith

pub never_taken : (r : Refusal) → number_of r ≡ TAKEN → ⊥
never_taken r q = absurd (omega (arith, number_above r, q))

-- The refusal of a number.
refusal_of : ℕ → Refusal
refusal_of n =
    cond (eqb n RAGGED) Ragged (cond (eqb n LONG) Long (cond (eqb n LEVEL) Level (cond (eqb n SPAN) Span
    (cond (eqb n ORDER) Order (cond (eqb n CROSS) Cross (cond (eqb n DEPTH) Depth (cond (eqb n JOINT) Joint
    (cond (eqb n ROOM) Room (cond (eqb n MARK) Mark (cond (eqb n STRAY) Stray (cond (eqb n DEEP) Deep
    (cond (eqb n UNCLOSED) Unclosed (cond (eqb n TABLE) Table (cond (eqb n CONTENTS) Contents
    (cond (eqb n ABSENT) Absent (cond (eqb n READING) Reading Links))))))))))))))))

found_again : (r : Refusal) → refusal_of (number_of r) ≡ r
unfolding refusal_of
found_again Ragged = refl
found_again Long = refl
found_again Level = refl
found_again Span = refl
found_again Order = refl
found_again Cross = refl
found_again Depth = refl
found_again Joint = refl
found_again Room = refl
found_again Mark = refl
found_again Stray = refl
found_again Deep = refl
found_again Unclosed = refl
found_again Table = refl
found_again Contents = refl
found_again Absent = refl
found_again Reading = refl
found_again Links = refl

-- Two refusals of one number are one.
pub number_only : (r r' : Refusal) → number_of r ≡ number_of r' → r ≡ r'
number_only r r' q = sym (found_again r) ∙ ap refusal_of q ∙ found_again r'

-- So an answer number tells all of an answer that has no other value.
pub answer_only : (r r' : Result (Unit {0}) Refusal) → answer_in r ≡ answer_in r' → r ≡ r'
answer_only (Ok _) (Ok _) q = refl
answer_only (Ok _) (Err r) q = absurd (never_taken r (sym q))
answer_only (Err r) (Ok _) q = absurd (never_taken r q)
answer_only (Err r) (Err r') q = ap (λ x. Err x) (number_only r r' q)

abbrev number : Verdict → ℕ
number v = v.answer

abbrev list_named : Verdict → ℕ
list_named v = v.list

abbrev index_named : Verdict → ℕ
index_named v = v.index

-- A verdict tells all of a fault,
pub fault_only : (f f' : Fault) → verdict_of f ≡ verdict_of f' → f ≡ f'
fault_only f f' q =
    ap (λ r. fault r f.list f.index) (number_only f.refusal f'.refusal (ap number q))
    ∙ ap (λ l. fault f'.refusal l f.index) (ap list_named q)
    ∙ ap (λ i. fault f'.refusal f'.list i) (ap index_named q)

-- And all of an answer that has no other value.
pub verdict_only : (r r' : Result (Unit {0}) Fault) → verdict_in r ≡ verdict_in r' → r ≡ r'
verdict_only (Ok _) (Ok _) q = refl
verdict_only (Ok _) (Err f) q = absurd (never_taken f.refusal (sym (ap number q)))
verdict_only (Err f) (Ok _) q = absurd (never_taken f.refusal (ap number q))
verdict_only (Err f) (Err f') q = ap (λ x. Err x) (fault_only f f' q)

-- With the count it tells all of the answer of a call that writes.
pub counted_only : (r r' : Result ℕ Fault) → counted_in r ≡ counted_in r' → r ≡ r'
counted_only (Ok n) (Ok n') q = ap (λ k. Ok k) (ap (λ (x : Counted). x.count) q)
counted_only (Ok n) (Err f) q = absurd (never_taken f.refusal (sym (ap (λ (x : Counted). x.verdict.answer) q)))
counted_only (Err f) (Ok n) q = absurd (never_taken f.refusal (ap (λ (x : Counted). x.verdict.answer) q))
counted_only (Err f) (Err f') q = ap (λ x. Err x) (fault_only f f' (ap (λ (x : Counted). x.verdict) q))

-- A fault's verdict is a refusal.
pub fault_refuses : (f : Fault) → refusedb (verdict_of f) ≡ true
fault_refuses f = refuses (verdict_of f) (never_taken f.refusal)
