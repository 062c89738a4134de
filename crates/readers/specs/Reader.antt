-- docs/SCOPE.md, "The field book": what a reader keeps of the caller's bytes. It keeps all of an
-- accepted book and an empty part of a refused one. Both begin where the caller's bytes begin.
use Rattle.std.specs.Prelude.{ℕ, cond, List, []}
use Rattle.contents.specs.Contents.{MOST_LISTS, lists_in}
use Rattle.answers.specs.Verdict.{refusedb}
use Rattle.books.specs.Book.{book_verdict_up_to}
use Rattle.books.specs.Find.{tag_body, tag_place}

-- What a reader keeps where a book may have up to `most` lists.
module _ (most : ℕ) (book : List ℕ) where
  -- The bytes.
  unfoldable pub kept_of_up_to : List ℕ
  kept_of_up_to = cond (refusedb (book_verdict_up_to most book)) [] book

  -- The number of lists, 0 for a refused book.
  unfoldable pub kept_lists_up_to : ℕ
  kept_lists_up_to = lists_in kept_of_up_to

  -- The body of a tag, empty where the book is refused or has no such list.
  unfoldable pub kept_body_up_to : ℕ → List ℕ
  kept_body_up_to tag = tag_body kept_of_up_to kept_lists_up_to tag

  -- Where that body lies, given where the book begins.
  unfoldable pub kept_place_up_to : ℕ × ℕ → ℕ → ℕ × ℕ
  kept_place_up_to start tag = tag_place start kept_of_up_to kept_lists_up_to tag

-- What the library's own reader keeps: the bytes, the number of lists, and a tag's body and its
-- place.
abbrev pub kept_of : List ℕ → List ℕ
kept_of book = kept_of_up_to MOST_LISTS book

abbrev pub kept_lists : List ℕ → ℕ
kept_lists book = kept_lists_up_to MOST_LISTS book

abbrev pub kept_body : List ℕ → ℕ → List ℕ
kept_body book tag = kept_body_up_to MOST_LISTS book tag

abbrev pub kept_place : ℕ × ℕ → List ℕ → ℕ → ℕ × ℕ
kept_place start book tag = kept_place_up_to MOST_LISTS book start tag
