-- docs/SCOPE.md, "The field book": a list at fault in a book, said by the list and not by the check
-- of the book.
use Rattle.std.specs.Prelude.{ℕ, ◌<◌, List}
use Rattle.contents.specs.Contents.{lists_in}
use Rattle.lists.specs.Refusal.{Faulty}
use Rattle.books.specs.Book.{list_at}

-- One of the book's lists has a fault.
pub record HasFaultyList (book : List ℕ) : Type 0 where
  pub position : ℕ
  pub there : position < lists_in book
  pub faulty : Faulty (list_at book position)
