-- Function: `is_faulty` (src/hundredths.rt).
-- Why it holds: A missing reading is not faulty, and any other is where it is above 10,000.
-- What would break it: A limit one off, or missing taken for faulty, would be caught at the return.
use Rattle.std.proofs.Common.{arith}
use Rattle.std.proofs.lemmas.Grind.{common_steps}
use Rattle.std.proofs.lemmas.Bool.Decides.{nat_tests}
use Rattle.sheets.specs.Hundredths.{missingb, faulty_wordb}
use Rattle.sheets.proofs.hundredths.is_faulty.Goals as goal

pub returns : goal.returns
unfolding faulty_wordb missingb
returns c = grind (arith, common_steps, nat_tests)
