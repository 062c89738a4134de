-- Demand 2 for books: writing and reading a book return each other, and each list is found by its
-- tag. `write_book` promises this answer and output, `check_book` this verdict. A tag, a count, a
-- node or a byte that didn't come back would be caught here.
use mathlib.Core.Path.{◌≡◌, ap, ◌∙◌}
use mathlib.Core.List.{List}
use Prim.Native.Nat.{ℕ, ◌≤◌, ◌<◌}
use lib.ListN.{length, get_or}
use Rattle.answers.specs.Answer.{TAKEN}
use Rattle.answers.specs.Output.{written}
use Rattle.answers.specs.Verdict.{ANCESTORS, verdict}
use Rattle.laws.specs.Choose.{All}
use Rattle.nodes.specs.declared.node.Node.{Node}
use Rattle.nodes.specs.Words.{nodes}
use Rattle.numbers.specs.Little.{numbers}
use Rattle.contents.specs.Contents.{lists_in, entry_at}
use Rattle.books.specs.Book.{body_of, book_verdict}
use Rattle.books.specs.Find.{found_at, found_tag, tag_body}
use Rattle.books.proofs.FindLaws.{tag_found}
use Rattle.readers.specs.Reader.{kept_body}
use Rattle.readers.proofs.Kept.{kept_tag, body_at}
use Rattle.writing.specs.Back.{entries_from, nodes_from, bodies_in}
use Rattle.writing.specs.Wanted.{want, wanted, bodies_for}
use Rattle.writing.specs.WriteCall.{check_wanted, bytes_for, written_of, written_output}
use Rattle.writing.proofs.FoundAgain.{written_found}
use Rattle.writing.proofs.Returned.{written_taken, entries_back, nodes_back, bodies_back, words_return, book_returns}

-- Of accepted lists, given as 32-bit words:
module _ (entries list : List ℕ) (tags : All (λ n. n < 4294967296) entries) (words : All (λ n. n < 4294967296) list)
    (accepted : (check_wanted entries list).answer ≡ TAKEN) where
  -- They are written into the bytes of their book,
  pub lists_are_written : (out : List ℕ) → length (bytes_for entries list) ≤ length out
      → (written_of entries list out ≡ record { verdict = verdict TAKEN ANCESTORS 0; count = length (bytes_for entries list) })
      × (written_output entries list out ≡ written (bytes_for entries list) out)
  lists_are_written out l = (words_return entries list out tags words accepted l).0

  -- those bytes are a book,
  pub written_bytes_are_a_book : book_verdict (bytes_for entries list) ≡ verdict TAKEN ANCESTORS 0
  written_bytes_are_a_book = written_taken entries list accepted tags words

  -- and the book reads back as the same entries and the same nodes, list by list.
  pub written_lists_come_back : (entries_from (bytes_for entries list) ≡ entries)
      × (nodes_from (bytes_for entries list) ≡ list)
      × (bodies_in (bytes_for entries list) ≡ bodies_for (wanted entries) (nodes list))
  written_lists_come_back =
      (entries_back entries list accepted tags words, nodes_back entries list accepted tags words, bodies_back entries list accepted tags words)

  -- Under each entry's tag lies a body with the nodes of that entry's list. `tag_body` and the
  -- reader's `body` promise `tag_body`, `body_in` promises `kept_body`. There is an entry at the
  -- position, so the defaults `t`, `n` and `ns` are never read.
  pub written_list_is_found : (position : ℕ) → position < length (wanted entries) → (t n : ℕ) (ns : List Node)
      → let book = bytes_for entries list in
      let tag = (get_or (wanted entries) position (want t n)).tag in
      (nodes (numbers (tag_body book (lists_in book) tag)) ≡ get_or (bodies_for (wanted entries) (nodes list)) position ns)
      × (nodes (numbers (kept_body book tag)) ≡ get_or (bodies_for (wanted entries) (nodes list)) position ns)
  written_list_is_found position h t n ns =
      let found = written_found entries list accepted tags words position h (want t n) ns in
      let book_taken = ap (λ v. v.answer) (written_taken entries list accepted tags words) in
      (found, ap (λ body. nodes (numbers body)) (kept_tag (bytes_for entries list) book_taken (get_or (wanted entries) position (want t n)).tag) ∙ found)

-- Of bytes that read as a book:
module _ (book : List ℕ) (accepted : (book_verdict book).answer ≡ TAKEN) where
  -- It is written back to the same bytes,
  pub read_book_comes_back : All (λ b. b < 256) book → (out : List ℕ) → length book ≤ length out
      → (written_of (entries_from book) (nodes_from book) out ≡ record { verdict = verdict TAKEN ANCESTORS 0; count = length book })
      × (written_output (entries_from book) (nodes_from book) out ≡ written book out)
  read_book_comes_back bytes out l = book_returns book out bytes accepted l

  -- and each of its lists is found by its tag where it stands.
  pub each_list_is_found : (position : ℕ) → position < lists_in book
      → (found_tag book (entry_at book position).tag ≡ found_at book position)
      × (kept_body book (entry_at book position).tag ≡ body_of book (entry_at book position))
  each_list_is_found position h = (tag_found book accepted position h, body_at book accepted position h)
