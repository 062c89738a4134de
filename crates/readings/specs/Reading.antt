-- docs/SCOPE.md, "Lab readings": what a reading is, which two words stand for it, and its value in
-- percent. Floats are those of IEEE 754, by the library's account of them.
use Rattle.std.specs.Prelude.{ℕ, Bool, cond, not, ◌&&◌, eqb, pos, Float, Option, None, Some}
use Rattle.std.specs.Float.{binary32}
use Rattle.std.specs.Float.Ieee.{of_bits, of_int, div, lt}
use Rattle.std.specs.Float.Ieee.Scale.{finite}
use Rattle.readings.specs.declared.reading.Reading.{Reading}
use Rattle.readings.specs.declared.reading.Reading.TheVariants as Lab

-- The kinds of reading.
abbrev pub MISSING : ℕ
MISSING = 0

abbrev pub PERCENT : ℕ
PERCENT = 1

abbrev pub GRAMS : ℕ
GRAMS = 2

-- A whole number as a float.
abbrev pub float : ℕ → Float
float n = of_int binary32 (pos n)

-- The greatest value in percent, and in grams per kilogram.
abbrev pub MOST_PERCENT : Float
MOST_PERCENT = float 100

abbrev pub MOST_GRAMS : Float
MOST_GRAMS = float 1000

-- How many grams per kilogram make one percent.
abbrev pub GRAMS_A_PERCENT : Float
GRAMS_A_PERCENT = float 10

-- x is finite, not below zero and not above `most`.
unfoldable pub withinb : Float → Float → Bool
withinb most x = finite x && (not (lt x (float 0)) && not (lt most x))

-- What a kind and the bits of a value stand for. A missing reading has the bits 0. Any other kind,
-- and a value out of its bounds, is a fault: it stands for nothing.
unfoldable pub decode : ℕ → ℕ → Option Reading
decode kind bits =
    cond (eqb kind MISSING && eqb bits 0) (Some Lab.Missing)
    (cond (eqb kind PERCENT && withinb MOST_PERCENT (of_bits binary32 bits)) (Some (Lab.Percent (of_bits binary32 bits)))
    (cond (eqb kind GRAMS && withinb MOST_GRAMS (of_bits binary32 bits)) (Some (Lab.Grams (of_bits binary32 bits)))
    None))

-- A reading in percent, or nothing where it is missing. A value in grams is divided by ten, once.
abbrev pub percent_of : Reading → Option Float
percent_of (Lab.Percent p) = Some p
percent_of (Lab.Grams g) = Some (div binary32 g GRAMS_A_PERCENT)
percent_of Lab.Missing = None
