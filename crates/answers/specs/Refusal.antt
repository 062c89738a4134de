-- docs/SCOPE.md, "Answer numbers": the number of each refusal, and what a call answers by number
-- that returns a refusal or else some value.
use Rattle.std.specs.Prelude.{ℕ, Result, Ok, Err}
use Rattle.answers.specs.declared.refusal.Refusal.{Refusal}
use Rattle.answers.specs.declared.refusal.Refusal.TheVariants.{Ragged, Long, Level, Span, Order, Cross, Depth, Joint, Room, Mark, Stray, Deep, Unclosed, Table, Contents, Absent, Reading, Links}
use Rattle.answers.specs.declared.refusal.Fault.{Fault}
use Rattle.answers.specs.declared.verdict.Counted.{Counted}
use Rattle.answers.specs.declared.verdict.Verdict.{Verdict}
use Rattle.answers.specs.Answer.{TAKEN, RAGGED, LONG, LEVEL, SPAN, ORDER, CROSS, DEPTH, JOINT, ROOM, MARK, STRAY, DEEP, UNCLOSED, TABLE, CONTENTS, ABSENT, READING, LINKS}
use Rattle.answers.specs.Verdict.{ANCESTORS, verdict, taken, counted}

-- The number of each refusal.
abbrev pub number_of : Refusal → ℕ
number_of Ragged = RAGGED
number_of Long = LONG
number_of Level = LEVEL
number_of Span = SPAN
number_of Order = ORDER
number_of Cross = CROSS
number_of Depth = DEPTH
number_of Joint = JOINT
number_of Room = ROOM
number_of Mark = MARK
number_of Stray = STRAY
number_of Deep = DEEP
number_of Unclosed = UNCLOSED
number_of Table = TABLE
number_of Contents = CONTENTS
number_of Absent = ABSENT
number_of Reading = READING
number_of Links = LINKS

-- A refusal, with the list that it names and the index of the faulty node.
abbrev pub fault : Refusal → ℕ → ℕ → Fault
fault refusal list index = record { refusal = refusal; list = list; index = index }

-- A refusal where no node is at fault.
abbrev pub at_no_node : Refusal → Fault
at_no_node refusal = fault refusal ANCESTORS 0

-- The answer number of a call that returns a refusal, or else some value.
abbrev pub answer_in : {A : Type 0} → Result A Refusal → ℕ
answer_in (Ok _) = TAKEN
answer_in (Err refusal) = number_of refusal

-- A fault as a verdict.
abbrev pub verdict_of : Fault → Verdict
verdict_of f = verdict (number_of f.refusal) f.list f.index

-- The verdict of a call that returns a fault, or else some value.
abbrev pub verdict_in : {A : Type 0} → Result A Fault → Verdict
verdict_in (Ok _) = taken
verdict_in (Err f) = verdict_of f

-- The answer of a call that returns a fault, or else the count of what it wrote.
abbrev pub counted_in : Result ℕ Fault → Counted
counted_in (Ok count) = counted taken count
counted_in (Err f) = counted (verdict_of f) 0
