-- docs/SCOPE.md, "Lab readings": what makes two words no reading, one case for each line of the
-- list there. No contract cites it.
use Rattle.std.specs.Prelude.{ℕ, ◌≡◌, ◌⊎◌, true, false, Float}
use Rattle.std.specs.Float.{binary32}
use Rattle.std.specs.Float.Ieee.{of_bits, lt}
use Rattle.std.specs.Float.Ieee.Scale.{finite}
use Rattle.readings.specs.Reading.{MISSING, PERCENT, GRAMS, MOST_PERCENT, MOST_GRAMS, float}

-- A value isn't finite, or is below zero, or is above its limit.
abbrev pub OutOf : Float → Float → Type 0
OutOf most x = (finite x ≡ false) ⊎ ((lt x (float 0) ≡ true) ⊎ (lt most x ≡ true))

-- What makes a kind and the bits of a value no reading.
pub data Unread (kind bits : ℕ) : Type 0 where
  another_kind : (kind ≡ MISSING → ⊥) → (kind ≡ PERCENT → ⊥) → (kind ≡ GRAMS → ⊥) → Unread kind bits
  missing_with_bits : kind ≡ MISSING → (bits ≡ 0 → ⊥) → Unread kind bits
  percent_out : kind ≡ PERCENT → OutOf MOST_PERCENT (of_bits binary32 bits) → Unread kind bits
  grams_out : kind ≡ GRAMS → OutOf MOST_GRAMS (of_bits binary32 bits) → Unread kind bits
