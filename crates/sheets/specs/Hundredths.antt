-- docs/SCOPE.md, "The zone sheet": one word a sample, which is a number of hundredths of a percent,
-- or says that the reading is missing.
use Rattle.std.specs.Prelude.{ℕ, Bool, not, ◌||◌, leb, eqb}

-- The most hundredths of a percent: one hundred percent.
abbrev pub MOST_HUNDREDTHS : ℕ
MOST_HUNDREDTHS = 10000

-- The word of a sample without a reading.
abbrev pub NO_HUNDREDTHS : ℕ
NO_HUNDREDTHS = 65535

-- The word says that the reading is missing.
unfoldable pub missingb : ℕ → Bool
missingb word = eqb word NO_HUNDREDTHS

-- The word is faulty: neither a number of hundredths from 0 to 10,000 nor the one for missing.
unfoldable pub faulty_wordb : ℕ → Bool
faulty_wordb word = not (leb word MOST_HUNDREDTHS || missingb word)
