-- docs/SCOPE.md, "Answer numbers": what a check answers. It gives the number, the list that it
-- names, and the faulty node's index. A call that writes also gives the count of what it wrote.
use Rattle.std.specs.Prelude.{ℕ, Bool, not, eqb}
use Rattle.answers.specs.declared.verdict.Counted.{Counted}
use Rattle.answers.specs.declared.verdict.Verdict.{Verdict}
use Rattle.answers.specs.Answer.{TAKEN}

-- The list that an answer names; where no single list is at fault, that is the ancestors.
abbrev pub ANCESTORS : ℕ
ANCESTORS = 0

abbrev pub DESCENDANTS : ℕ
DESCENDANTS = 1

-- An answer's number, the list that it names and the index of the faulty node, as one verdict.
abbrev pub verdict : ℕ → ℕ → ℕ → Verdict
verdict answer list index = record { answer = answer; list = list; index = index }

-- No fault.
abbrev pub taken : Verdict
taken = verdict TAKEN ANCESTORS 0

-- Whether the verdict is a refusal: its answer isn't TAKEN.
unfoldable pub refusedb : Verdict → Bool
refusedb v = not (eqb v.answer TAKEN)

-- The same verdict, naming this list.
abbrev pub in_list : ℕ → Verdict → Verdict
in_list list v = verdict v.answer list v.index

-- A verdict, with the count of what the call wrote.
abbrev pub counted : Verdict → ℕ → Counted
counted v count = record { verdict = v; count = count }
