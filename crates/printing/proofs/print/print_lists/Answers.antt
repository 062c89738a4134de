-- Function: `print_lists` (src/print.rt).
-- Why it holds: Each return answers by the first check that refuses. The two lists that are joined
-- are the book's first and second.
-- What would break it: ABSENT or the book's refusal passed over, or a longer input taken, would be
-- caught at its return.
use borrow.Author.Rules.{rules}
use mathlib.Core.Path.{◌≡◌, refl, sym, ap, ◌∙◌}
use native.Mathlib.Omega.{arith}
use Rattle.std.proofs.lemmas.Result.{err_from_is_err_and}
use Rattle.std.specs.Prelude.{Result, Ok, Err}
use mathlib.Core.List.{List}
use Prim.Native.Nat.{ℕ, ◌≤◌}
use lib.ListN.{length}
use Rattle.answers.specs.declared.refusal.Refusal.{Refusal}
use Rattle.printing.specs.Print.{MOST_BYTES, printed_answer}
use Rattle.answers.specs.declared.refusal.Fault.{Fault}
use Rattle.answers.specs.Refusal.{number_of}
use Rattle.answers.proofs.RefusalLaws.{never_taken}
use Rattle.books.specs.Book.{opened_in, check_book}
use Rattle.printing.proofs.Answering.{too_long, refused_book, book_good, its_lists, one_list, joined}
use Rattle.printing.proofs.Reasons.{Reasoned, reason_ok, reason_err}
use Rattle.printing.proofs.print.print_lists.Goals as goal

-- What opening the book told, once it is known to be a refusal or a number of lists.
module _ (book : List ℕ) (checked : Result ℕ Fault) (e : opened_in checked ≡ check_book book) where
  told_err : length book ≤ MOST_BYTES → (f : Fault) → checked ≡ Err f → (r : Refusal) → f.refusal ≡ r → number_of r ≡ printed_answer book
  told_err h f q r s = sym (ap number_of s) ∙ refused_book book h (opened_in (Err f)) (rw q at e) (never_taken f.refusal)

  told_ok : (lists : ℕ) → checked ≡ Ok lists → opened_in (Ok lists) ≡ check_book book
  told_ok lists q = rw q at e

pub returns-then-book-gt-MOST_BYTES : goal.returns-then-book-gt-MOST_BYTES
returns-then-book-gt-MOST_BYTES c = too_long c.args.book.now (omega arith)

pub returns-in_err-lists : goal.returns-in_err-lists
returns-in_err-lists c =
    let book = c.args.book.now in
    let p = err_from_is_err_and c.from_residual.result c.from_residual.ensures.1 in
    let n : Reasoned c.check_book.result c.map_err.result = search rules in
    let f = reason_err _ _ n _ c.in_err-lists.was in
    rw (p.1, p.2) (told_err book _ c.check_book.ensures (omega arith) f.0 f.1 _ f.2)

pub returns-then-lists-lt-JOINED_LISTS : goal.returns-then-lists-lt-JOINED_LISTS
returns-then-lists-lt-JOINED_LISTS c =
    let book = c.args.book.now in
    let n : Reasoned c.check_book.result c.map_err.result = search rules in
    let e = told_ok book _ c.check_book.ensures _ (reason_ok _ _ n _ c.in_ok-lists.was) in
    one_list book (omega arith) _ e refl (omega arith)

pub print_two-requires : goal.print_two-requires
print_two-requires c =
    let book = c.args.book.now in
    let n : Reasoned c.check_book.result c.map_err.result = search rules in
    let e = told_ok book _ c.check_book.ensures _ (reason_ok _ _ n _ c.in_ok-lists.was) in
    (book_good book (omega arith) _ e refl, its_lists book (omega arith) _ e refl, omega arith)

pub returns : goal.returns
returns c =
    let book = c.args.book.now in
    let n : Reasoned c.check_book.result c.map_err.result = search rules in
    let e = told_ok book _ c.check_book.ensures _ (reason_ok _ _ n _ c.in_ok-lists.was) in
    joined book (omega arith) _ e refl (omega arith) _ c.print_two.ensures
