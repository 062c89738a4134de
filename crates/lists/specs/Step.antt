-- docs/SCOPE.md, "Answer numbers": the answer number and values that each of a step's two cases
-- stands for.
use Rattle.std.specs.Prelude.{Result, Ok, Err}
use Rattle.answers.specs.declared.refusal.Fault.{Fault}
use Rattle.answers.specs.declared.verdict.Verdict.{Verdict}
use Rattle.answers.specs.Refusal.{number_of}
use Rattle.answers.specs.Verdict.{verdict, taken}
use Rattle.lists.specs.declared.walk.ListPlace.{ListPlace}

-- A place reached is TAKEN so far, and a refusal is the verdict that its fault gives.
abbrev pub verdict_of : Result ListPlace Fault → Verdict
verdict_of (Ok place) = taken
verdict_of (Err refusal) = verdict (number_of refusal.refusal) refusal.list refusal.index
