-- Function: `kept_part` (src/opening.rt).
-- Why it holds: The check refuses exactly the books that are refused. So a refused book gives an
-- empty part, and an accepted one gives all of it.
-- What would break it: Bytes kept although refused, or dropped although accepted, would be caught
-- at a return.
use mathlib.Core.Path.{◌≡◌, refl, sym}
use mathlib.Core.Bool.{true, false}
use mathlib.Core.List.{List, []}
use Prim.Native.Nat.{ℕ}
use Rattle.std.specs.Prelude.{Result, Ok, Err}
use Rattle.std.specs.Result.{is_ok}
use Rattle.laws.proofs.Tests.{never}
use Rattle.answers.specs.declared.refusal.Fault.{Fault}
use Rattle.contents.specs.Contents.{MOST_LISTS}
use Rattle.books.specs.Book.{check_book, opened_in}
use Rattle.books.proofs.BookLaws.{opened_ok, opened_err}
use Rattle.readers.specs.Reader.{kept_of}
use Rattle.readers.proofs.Kept.{kept_nothing, kept_whole}
use Rattle.readers.proofs.opening.kept_part.Goals as goal

module _ (book : List ℕ) where
  refused : (r : Result ℕ Fault) → opened_in r ≡ check_book book → is_ok r ≡ false → [] ≡ kept_of book
  refused (Ok lists) e h = absurd (never refl h)
  refused (Err f) e h = sym (kept_nothing MOST_LISTS book (opened_err book f e).1)

  accepted : (r : Result ℕ Fault) → opened_in r ≡ check_book book → is_ok r ≡ true → book ≡ kept_of book
  accepted (Ok lists) e h = sym (kept_whole book (opened_ok book lists e).0)
  accepted (Err f) e h = absurd (never h refl)

pub returns-then-is_ok : goal.returns-then-is_ok
returns-then-is_ok c = record { contents = accepted _ _ c.check_book.ensures (sym c.if-is_ok.ensures.value); place = refl }

pub returns-else-is_ok : goal.returns-else-is_ok
returns-else-is_ok c = record { contents = refused _ _ c.check_book.ensures (sym c.if-is_ok.ensures.value); place = refl }
