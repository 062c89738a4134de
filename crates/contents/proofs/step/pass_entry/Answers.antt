-- Function: `pass_entry` (src/step.rt).
-- Why it holds: Each test is a part of the definition's, and an entry that passes all of them leads
-- to the place after its list.
-- What would break it: A limit one off, equal tags let through, or a next body at another place
-- would be caught at its return.
use Rattle.std.proofs.Common.{arith}
use Rattle.std.proofs.lemmas.Grind.{common_steps}
use Rattle.std.proofs.lemmas.Bool.Decides.{nat_tests}
use Rattle.contents.specs.Passing.{passesb, after_entry, step_of}
use Rattle.contents.proofs.step.pass_entry.Goals as goal

pub returns-then-entry-place : goal.returns-then-entry-place
unfolding passesb step_of after_entry
returns-then-entry-place c = grind (arith, common_steps, nat_tests)

pub returns-then-is_some_and : goal.returns-then-is_some_and
unfolding passesb step_of after_entry
returns-then-is_some_and c = grind (arith, common_steps, nat_tests)

pub returns : goal.returns
unfolding passesb step_of after_entry
returns c = grind (arith, common_steps, nat_tests)
