-- Function: `wanted_at` (src/wanted.rt).
-- Why it holds: Below the number of entries the two words at twice the index are the entry's.
-- What would break it: A word one off would be caught at the return. An index too large would be
-- caught at a read.
use mathlib.Core.Path.{sym}
use native.Mathlib.Omega.{arith}
use Rattle.writing.proofs.WantedLaws.{wanted_words_lem}
use Rattle.writing.proofs.wanted.wanted_at.Goals as goal

pub returns : goal.returns
returns c = sym (wanted_words_lem _ _ (omega arith))
