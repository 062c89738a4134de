-- docs/SCOPE.md, "The field book": a list of a book by its tag or by its position, or ABSENT.
use Rattle.std.specs.Prelude.{ℕ, ◌*◌, Bool, cond, List, Option, None, Some, Result, Ok, Err, ltb, eqb, length, get_or, take}
use Rattle.answers.specs.Answer.{ABSENT}
use Rattle.laws.specs.Choose.{any, first_at}
use Rattle.numbers.specs.Little.{NODE_BYTES}
use Rattle.contents.specs.declared.entry.Entry.{Entry}
use Rattle.contents.specs.Contents.{MOST_LISTS, entry, lists_in, entries_in, contents_of, entry_at}
use Rattle.answers.specs.declared.refusal.Fault.{Fault}
use Rattle.answers.specs.declared.verdict.Verdict.{Verdict}
use Rattle.answers.specs.Refusal.{verdict_of}
use Rattle.answers.specs.Verdict.{refusedb, ANCESTORS, verdict, taken}
use Rattle.books.specs.declared.find.Body.{Body}
use Rattle.books.specs.declared.find.Found.{Found}
use Rattle.books.specs.Book.{body_of, body_place, book_verdict_up_to}

-- The index of a tag's list among the entries, or the number of entries where no list has the tag.
unfoldable pub tag_at : ℕ → List Entry → ℕ
tag_at tag es = first_at (λ e. eqb e.tag tag) es

-- The same index, or None where no list has the tag.
unfoldable pub tag_index : ℕ → List Entry → Option ℕ
tag_index tag es = cond (ltb (tag_at tag es) (length es)) (Some (tag_at tag es)) None

-- What looking for a list answers: the verdict, the body's first byte in the book and its number of
-- bytes.
abbrev pub found : Verdict → ℕ → ℕ → Found
found v from bytes = record { verdict = v; from = from; bytes = bytes }

-- The same for a search that returns where the body lies, or a fault.
abbrev pub found_in : Result Body Fault → Found
found_in (Ok b) = found taken b.from b.bytes
found_in (Err f) = found (verdict_of f) 0 0

-- Where the body lies that the entry at a position names.
abbrev pub body_at : List ℕ → ℕ → Body
body_at book position = let e = entry_at book position in record { from = e.offset; bytes = NODE_BYTES * e.count }

-- Looking for a list where a book may have up to `most` lists.
module _ (most : ℕ) (book : List ℕ) where
  -- The verdict on looking for the list at a position: the book's own refusal, then ABSENT where
  -- the book has fewer lists than wanted.
  unfoldable pub verdict_at_up_to : ℕ → Verdict
  verdict_at_up_to position =
      cond (refusedb (book_verdict_up_to most book)) (book_verdict_up_to most book)
      (cond (ltb position (lists_in book)) taken (verdict ABSENT ANCESTORS 0))

  -- That verdict, and where the list's body lies; nowhere on refusal.
  unfoldable pub found_at_up_to : ℕ → Found
  found_at_up_to position =
      let v = verdict_at_up_to position in
      let e = entry_at book position in
      cond (refusedb v) (found v 0 0) (found v e.offset (NODE_BYTES * e.count))

  -- The same for the list of a tag.
  unfoldable pub found_tag_up_to : ℕ → Found
  found_tag_up_to tag = found_at_up_to (tag_at tag (contents_of book))

-- The library's own verdict, and what it finds at a position and under a tag.
abbrev pub verdict_at : List ℕ → ℕ → Verdict
verdict_at book position = verdict_at_up_to MOST_LISTS book position

abbrev pub found_at : List ℕ → ℕ → Found
found_at book position = found_at_up_to MOST_LISTS book position

abbrev pub found_tag : List ℕ → ℕ → Found
found_tag book tag = found_tag_up_to MOST_LISTS book tag

-- Whether one of the `lists` lists of a book that was opened before has the tag.
unfoldable pub has_tag : List ℕ → ℕ → ℕ → Bool
has_tag book lists tag = any (λ e. eqb e.tag tag) (take lists (entries_in book))

-- The entry of a tag, or an entry of zeros where no list has it.
unfoldable pub tag_entry : List ℕ → ℕ → ℕ → Entry
tag_entry book lists tag =
    let es = take lists (entries_in book) in
    get_or es (tag_at tag es) (entry 0 0 0)

-- The body of a tag as a part of the book, and where it lies; where no list has the tag, that is an
-- empty part at the book's beginning.
unfoldable pub tag_body : List ℕ → ℕ → ℕ → List ℕ
tag_body book lists tag = body_of book (tag_entry book lists tag)

unfoldable pub tag_place : ℕ × ℕ → List ℕ → ℕ → ℕ → ℕ × ℕ
tag_place start book lists tag = body_place start book (tag_entry book lists tag)
