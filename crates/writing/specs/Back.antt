-- What a book that was read gives for writing it again: its tags and counts as entries, and its
-- nodes one after the other.
use Rattle.std.specs.Prelude.{ℕ}
use mathlib.Core.List.{List, map, flat_map}
use Rattle.nodes.specs.declared.node.Node.{Node}
use Rattle.nodes.specs.Words.{words_of}
use Rattle.answers.specs.Output.{words_in}
use Rattle.contents.specs.Contents.{contents_of}
use Rattle.books.specs.Book.{nodes_of}
use Rattle.writing.specs.declared.wanted.Wanted.{Wanted}
use Rattle.writing.specs.Wanted.{want, wanted_words}

-- The tag and the count of each list.
unfoldable pub wanted_in : List ℕ → List Wanted
wanted_in book = map (λ e. want e.tag e.count) (contents_of book)

-- The nodes of each list, list by list.
unfoldable pub bodies_in : List ℕ → List (List Node)
bodies_in book = map (nodes_of book) (contents_of book)

-- The tags and counts as words.
unfoldable pub entries_from : List ℕ → List ℕ
entries_from book = words_in wanted_words (wanted_in book)

-- The nodes of all lists as words, one list after the other.
unfoldable pub nodes_from : List ℕ → List ℕ
nodes_from book = words_in words_of (flat_map (nodes_of book) (contents_of book))
