-- Parts of what was lent and where they lie, and the numbers in bytes copied into words.
use Rattle.std.specs.Prelude.{ℕ, ◌+◌, cond, List, leb, length, take, drop}
use Rattle.answers.specs.Output.{written}
use Rattle.numbers.specs.Little.{numbers}

-- At most `count` of the bytes, from byte `from` on; fewer where the bytes end before.
unfoldable pub part_of : List ℕ → ℕ → ℕ → List ℕ
part_of bytes from count = take count (drop from bytes)

-- Where a part lies. `start` is where what was lent begins: its block of memory and the byte in
-- that block. `size` is how many bytes were lent. A part from byte `from` on lies `from` bytes
-- further on in the same block. Where fewer bytes were lent, the part is empty and lies at the
-- beginning.
unfoldable pub place_in : ℕ × ℕ → ℕ → ℕ → ℕ × ℕ
place_in start size from = (start.0, start.1 + cond (leb from size) from 0)

-- The words with the numbers of the bytes at their beginning, as many as the words have room for.
unfoldable pub copied : List ℕ → List ℕ → List ℕ
copied bytes words = written (take (length words) (numbers bytes)) words
