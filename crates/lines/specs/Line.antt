-- docs/SCOPE.md, "The printing program": the lines that it prints, as ASCII bytes.
use Rattle.std.specs.Prelude.{ℕ, zero, suc, ◌+◌, ◌/◌, ◌%◌, cond, not, List, [], ◌∷◌, ◌++◌, ltb, eqb, length, take}
use Prim.Native.String.{String}
use Rattle.nodes.specs.declared.node.Node.{Node}
use Rattle.answers.specs.Answer.{padded, name_of}
use Rattle.laws.specs.Choose.{keep}
use Rattle.nodes.specs.Words.{nodes}
use Rattle.answers.specs.Output.{words_in}
use Rattle.tickets.specs.Listing.{Pair}
use Rattle.tickets.specs.PairWords.{pairs_in}

-- The byte of a blank.
abbrev pub BLANK : ℕ
BLANK = 32

-- The byte that ends a line.
abbrev pub LINE_FEED : ℕ
LINE_FEED = 10

-- A number in decimal: the digits of its tenth, and then its last one, at most as many in all as
-- the first argument says.
unfoldable pub digits_to : ℕ → ℕ → List ℕ
digits_to zero n = []
digits_to (suc most) n = cond (ltb n 10) ((48 + n) ∷ []) (digits_to most (n / 10) ++ (48 + n % 10) ∷ [])

-- The most digits of a 64-bit number.
abbrev pub MOST_DIGITS : ℕ
MOST_DIGITS = 20

-- A 64-bit number in decimal.
unfoldable pub decimal : ℕ → List ℕ
decimal n = digits_to MOST_DIGITS n

-- A word without its filling blanks.
unfoldable pub unfilled : List ℕ → List ℕ
unfilled letters = keep (λ b. not (eqb b BLANK)) letters

-- The bytes of a word.
unfoldable pub word : String → List ℕ
word text = unfilled (padded text)

-- A pair of an ancestor and a descendant.
abbrev pub pair_with : Node → Node → Pair
pair_with x y = record { ancestor = x; descendant = y }

-- A pair's line: document, ancestor's start, descendant's start, with single blanks.
unfoldable pub pair_line : Pair → List ℕ
pair_line p =
    decimal p.ancestor.document ++ BLANK ∷ decimal p.ancestor.start ++ BLANK ∷ decimal p.descendant.start ++ LINE_FEED ∷ []

-- The most bytes of a pair's line: three numbers of ten digits, and a byte after each.
abbrev pub LINE_BYTES : ℕ
LINE_BYTES = 33

-- The lines of the pairs that the words make, but only of as many pairs as the text has room for,
-- however long their lines are.
unfoldable pub lines_for : List ℕ → List ℕ → List ℕ
lines_for pairs text = words_in pair_line (take (length text / LINE_BYTES) (pairs_in (nodes pairs)))

-- The line after all pairs: the word `pairs` and how many there were.
unfoldable pub total_line : ℕ → List ℕ
total_line count = word "pairs" ++ BLANK ∷ decimal count ++ LINE_FEED ∷ []

-- A refusal's line: the word `refused`, the number, and the name up to its blanks.
unfoldable pub refusal_line : ℕ → List ℕ
refusal_line answer = word "refused" ++ BLANK ∷ decimal answer ++ BLANK ∷ unfilled (name_of answer) ++ LINE_FEED ∷ []
