-- docs/SCOPE.md, "The field book": all numbers are 32-bit little-endian.
use Rattle.std.specs.Prelude.{ℕ, ◌+◌, ◌*◌, ◌/◌, ◌%◌, cond, List, [], ◌∷◌, ltb, length, get_or}
use Rattle.std.proofs.lemmas.List.Edits.{sets}
use Rattle.nodes.specs.declared.node.Node.{Node}
use Rattle.nodes.specs.Words.{NODE_WORDS, node_at}

-- How many bytes a number takes, and how many a node takes.
abbrev pub NUMBER_BYTES : ℕ
NUMBER_BYTES = 4

abbrev pub NODE_BYTES : ℕ
NODE_BYTES = NUMBER_BYTES * NODE_WORDS

-- The number that four bytes make, the lowest byte first.
unfoldable pub little : ℕ → ℕ → ℕ → ℕ → ℕ
little a b c d = a + 256 * b + 65536 * c + 16777216 * d

-- The four bytes of a number, the lowest byte first.
unfoldable pub bytes_of : ℕ → List ℕ
bytes_of n = n % 256 ∷ n / 256 % 256 ∷ n / 65536 % 256 ∷ n / 16777216 % 256 ∷ []

-- The numbers that the bytes make, four bytes each; up to three bytes at the end are left over.
unfoldable pub numbers : List ℕ → List ℕ
numbers [] = []
numbers (a ∷ []) = []
numbers (a ∷ b ∷ []) = []
numbers (a ∷ b ∷ c ∷ []) = []
numbers (a ∷ b ∷ c ∷ d ∷ bytes) = little a b c d ∷ numbers bytes

-- How many whole numbers the bytes make.
abbrev pub number_count : List ℕ → ℕ
number_count bytes = length bytes / NUMBER_BYTES

-- The number at an index, or 0 where there is none.
unfoldable pub number_at : List ℕ → ℕ → ℕ
number_at bytes index = get_or (numbers bytes) index 0

-- The bytes with the number at an index replaced by n; unaltered where there is none.
unfoldable pub put_number : List ℕ → ℕ → ℕ → List ℕ
put_number bytes index n = cond (ltb index (number_count bytes)) (sets bytes (NUMBER_BYTES * index) (bytes_of n)) bytes

-- The node at an index of a list that lies in bytes, or a node of zeros where there is none.
unfoldable pub node_in : List ℕ → ℕ → Node
node_in bytes index = node_at (numbers bytes) index
