-- Function: `is_at_node` (src/part.rt).
-- Why it holds: The refusals that are named are those whose numbers are 3 to 7.
-- What would break it: A refusal left out, or one too many, would be caught at its return.
use Rattle.std.proofs.Common.{rules}
use Rattle.repairs.specs.Part.{showsb}
use Rattle.repairs.proofs.part.is_at_node.Goals as goal

pub returns-in-Level : goal.returns-in-Level
unfolding showsb
returns-in-Level c = search rules

pub returns-in_default : goal.returns-in_default
unfolding showsb
returns-in_default c = search rules
