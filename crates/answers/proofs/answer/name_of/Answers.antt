-- Function: `name_of` (src/answer.rt).
-- Why it holds: The table's rows are those of `names`, as antt computes them. A number
-- above the last has the name of blanks.
-- What would break it: A wrong letter, a name out of its place or a limit one off would be caught
-- at its return.
use Rattle.std.proofs.Common.{rules}
use Rattle.answers.specs.Answer.{names, letter_at, padded, name_of}
use Rattle.answers.proofs.answer.name_of.Goals as goal

pub returns : goal.returns
unfolding names letter_at padded name_of
returns c = search rules
