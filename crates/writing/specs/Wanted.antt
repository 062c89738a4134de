-- docs/SCOPE.md, "The field book": what a book is written from, which is entries of tag and count
-- and the nodes of all lists in sequence.
use Rattle.std.specs.Prelude.{ℕ, ◌+◌, ◌*◌, ◌%◌, Bool, cond, not, List, [], ◌∷◌, ◌++◌, eqb, length, take, drop}
use Rattle.nodes.specs.declared.node.Node.{Node}
use Rattle.answers.specs.Answer.{TAKEN, CONTENTS}
use Rattle.nodes.specs.Words.{words_of}
use Rattle.answers.specs.Output.{words_in}
use Rattle.numbers.specs.Little.{NODE_BYTES, bytes_of}
use Rattle.contents.specs.declared.entry.Entry.{Entry}
use Rattle.contents.specs.Contents.{MOST_LISTS, entry, entry_numbers, contents_end, brokenb}
use Rattle.writing.specs.declared.wanted.Wanted.{Wanted}

-- A list that is wanted in the book: its tag and its node count.
abbrev pub want : ℕ → ℕ → Wanted
want tag count = record { tag = tag; count = count }

-- How many words an entry takes.
abbrev pub WANTED_WORDS : ℕ
WANTED_WORDS = 2

-- The entries of the words, one after the other; a word left over makes none.
unfoldable pub wanted : List ℕ → List Wanted
wanted [] = []
wanted (t ∷ []) = []
wanted (t ∷ c ∷ words) = want t c ∷ wanted words

-- The words of an entry.
unfoldable pub wanted_words : Wanted → List ℕ
wanted_words w = w.tag ∷ w.count ∷ []

-- RAGGED: the words don't make whole entries.
unfoldable pub ragged_entries : List ℕ → Bool
ragged_entries words = not (eqb (length words % WANTED_WORDS) 0)

-- The contents of lists whose first body starts at the byte `at`, each next one where the last
-- ended.
unfoldable pub laid_out : ℕ → List Wanted → List Entry
laid_out at [] = []
laid_out at (w ∷ ws) = entry w.tag at w.count ∷ laid_out (at + NODE_BYTES * w.count) ws

-- The contents of a book: its first body starts right after them.
unfoldable pub contents_for : List Wanted → List Entry
contents_for ws = laid_out (contents_end (length ws)) ws

-- The bodies of a book: each list takes its count of nodes from those that the earlier lists left.
unfoldable pub bodies_for : List Wanted → List Node → List (List Node)
bodies_for [] ns = []
bodies_for (w ∷ ws) ns = take w.count ns ∷ bodies_for ws (drop w.count ns)

-- How many bytes the book has: its contents and all nodes.
unfoldable pub size_for : List Wanted → List Node → ℕ
size_for ws ns = contents_end (length ws) + NODE_BYTES * length ns

-- CONTENTS where a book may have up to `most` lists: the contents of this one would break a rule.
-- If the counts don't add up to the nodes, the last body wouldn't end where the book does.
unfoldable pub wanted_fault_up_to : ℕ → List Wanted → List Node → ℕ
wanted_fault_up_to most ws ns = cond (brokenb most (length ws) (contents_for ws) (size_for ws ns)) CONTENTS TAKEN

-- The library's own answer.
abbrev pub wanted_fault : List Wanted → List Node → ℕ
wanted_fault ws ns = wanted_fault_up_to MOST_LISTS ws ns

-- The numbers of the book: how many lists, the contents, and the nodes.
unfoldable pub book_numbers : List Wanted → List Node → List ℕ
book_numbers ws ns = length ws ∷ words_in entry_numbers (contents_for ws) ++ words_in words_of ns

-- The bytes of the book.
unfoldable pub book_bytes : List Wanted → List Node → List ℕ
book_bytes ws ns = words_in bytes_of (book_numbers ws ns)
