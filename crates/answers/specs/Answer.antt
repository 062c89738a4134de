-- docs/SCOPE.md, "Answer numbers": the numbers by name, and the one table of names.
use Rattle.std.specs.Prelude.{ℕ, cond, List, [], ◌∷◌, map, ltb, get_or}
use Prim.Native.Char.{code}
use Prim.Native.String.{String, len, char_at}

-- The number of each answer.
-- TAKEN also stands for "no fault". A definition whose name ends in Fault, or begins with check,
-- gives the answer of the first fault, and TAKEN where there is none. Some of these give a bare
-- number, others a verdict with that number in it.
abbrev pub TAKEN : ℕ
TAKEN = 0

abbrev pub RAGGED : ℕ
RAGGED = 1

abbrev pub LONG : ℕ
LONG = 2

abbrev pub LEVEL : ℕ
LEVEL = 3

abbrev pub SPAN : ℕ
SPAN = 4

abbrev pub ORDER : ℕ
ORDER = 5

abbrev pub CROSS : ℕ
CROSS = 6

abbrev pub DEPTH : ℕ
DEPTH = 7

abbrev pub JOINT : ℕ
JOINT = 8

abbrev pub ROOM : ℕ
ROOM = 9

abbrev pub MARK : ℕ
MARK = 10

abbrev pub STRAY : ℕ
STRAY = 11

abbrev pub DEEP : ℕ
DEEP = 12

abbrev pub UNCLOSED : ℕ
UNCLOSED = 13

abbrev pub TABLE : ℕ
TABLE = 14

abbrev pub CONTENTS : ℕ
CONTENTS = 15

abbrev pub ABSENT : ℕ
ABSENT = 16

abbrev pub READING : ℕ
READING = 17

abbrev pub LINKS : ℕ
LINKS = 18

-- The names, in the order of their numbers.
unfoldable pub names : List String
names =
    "TAKEN" ∷ "RAGGED" ∷ "LONG" ∷ "LEVEL" ∷ "SPAN" ∷ "ORDER" ∷ "CROSS" ∷ "DEPTH" ∷ "JOINT" ∷ "ROOM" ∷ "MARK" ∷ "STRAY" ∷ "DEEP"
    ∷ "UNCLOSED" ∷ "TABLE" ∷ "CONTENTS" ∷ "ABSENT" ∷ "READING" ∷ "LINKS" ∷ []

-- The ASCII byte at a place of a text, and a blank after its end.
unfoldable pub letter_at : String → ℕ → ℕ
letter_at text i = cond (ltb i (len text)) (code (char_at text i)) 32

-- A text as a name of eight bytes, filled up with blanks.
unfoldable pub padded : String → List ℕ
padded text = map (letter_at text) (0 ∷ 1 ∷ 2 ∷ 3 ∷ 4 ∷ 5 ∷ 6 ∷ 7 ∷ [])

-- The name of an answer number, or eight blanks for a number above the last one.
unfoldable pub name_of : ℕ → List ℕ
name_of number = get_or (map padded names) number (padded "")
