-- docs/SCOPE.md, "The field book": the table of contents and its rules.
use Rattle.std.specs.Prelude.{ℕ, ◌+◌, ◌*◌, ◌-◌, ◌/◌, Bool, true, cond, not, ◌&&◌, ◌||◌, List, [], ◌∷◌, ltb, eqb, length, get_or, take, drop}
use Rattle.answers.specs.Answer.{TAKEN, CONTENTS}
use Rattle.laws.specs.Choose.{any}
use Rattle.nodes.specs.Words.{MOST_NODES}
use Rattle.numbers.specs.Little.{NUMBER_BYTES, NODE_BYTES, numbers, number_count, number_at}
use Rattle.contents.specs.declared.entry.Entry.{Entry}

-- The most lists that a book may have.
abbrev pub MOST_LISTS : ℕ
MOST_LISTS = 64

-- The most lists in a book for programs that aren't renewed yet. No contract cites it.
abbrev pub EARLIER_LISTS : ℕ
EARLIER_LISTS = 16

-- An entry of the contents: a list's tag, where its body starts in the book, and how many nodes it
-- has.
abbrev pub entry : ℕ → ℕ → ℕ → Entry
entry tag offset count = record { tag = tag; offset = offset; count = count }

-- How many numbers an entry takes.
abbrev pub ENTRY_NUMBERS : ℕ
ENTRY_NUMBERS = 3

-- The entries that the numbers make, three numbers each; up to two numbers at the end are left
-- over.
unfoldable pub entries : List ℕ → List Entry
entries [] = []
entries (t ∷ []) = []
entries (t ∷ o ∷ []) = []
entries (t ∷ o ∷ c ∷ ns) = entry t o c ∷ entries ns

-- The three numbers of an entry.
unfoldable pub entry_numbers : Entry → List ℕ
entry_numbers e = e.tag ∷ e.offset ∷ e.count ∷ []

-- The number of lists, which is the book's first number.
unfoldable pub lists_in : List ℕ → ℕ
lists_in book = number_at book 0

-- All whole entries that the bytes after that number could hold, and how many they are.
unfoldable pub entries_in : List ℕ → List Entry
entries_in book = entries (drop 1 (numbers book))

abbrev pub entry_count : List ℕ → ℕ
entry_count book = (number_count book - 1) / ENTRY_NUMBERS

-- The entry at an index, or an entry of zeros where there is none.
unfoldable pub entry_at : List ℕ → ℕ → Entry
entry_at book index = get_or (entries_in book) index (entry 0 0 0)

-- The book's own entries, one for each list.
unfoldable pub contents_of : List ℕ → List Entry
contents_of book = take (lists_in book) (entries_in book)

-- The place right after the contents of `lists` lists.
unfoldable pub contents_end : ℕ → ℕ
contents_end lists = NUMBER_BYTES * (1 + ENTRY_NUMBERS * lists)

-- Each entry's tag is above the one before.
unfoldable pub ascendb : List Entry → Bool
ascendb [] = true
ascendb (e ∷ []) = true
ascendb (e ∷ f ∷ es) = ltb e.tag f.tag && ascendb (f ∷ es)

-- The bodies lie one right after the other from byte `at` on, up to the end of the book's `size`
-- bytes.
unfoldable pub laidb : ℕ → List Entry → ℕ → Bool
laidb at [] size = eqb at size
laidb at (e ∷ es) size = eqb e.offset at && laidb (at + NODE_BYTES * e.count) es size

-- Whether a book breaks a rule where a book may have up to `most` lists. It has `size` bytes, and
-- these entries for its `lists` lists. It breaks one if it has more lists than `most`, a count
-- above 4,096, or tags that don't ascend. It also does if its bodies don't lie right after the
-- contents and one another, up to the end, so also if it is cut short.
unfoldable pub brokenb : ℕ → ℕ → List Entry → ℕ → Bool
brokenb most lists es size =
    ltb most lists
    || (any (λ e. ltb MOST_NODES e.count) es
    || (not (ascendb es)
    || not (laidb (contents_end lists) es size)))

-- The answer for a book's contents where a book may have up to `most` lists: CONTENTS if they break
-- a rule, otherwise TAKEN.
unfoldable pub contents_fault_up_to : ℕ → List ℕ → ℕ
contents_fault_up_to most book = cond (brokenb most (lists_in book) (contents_of book) (length book)) CONTENTS TAKEN

-- The library's own answer.
abbrev pub contents_fault : List ℕ → ℕ
contents_fault book = contents_fault_up_to MOST_LISTS book
