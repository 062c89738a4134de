-- Function: `check_book` (src/book.rt).
-- Why it holds: Where the contents break a rule, the answer is CONTENTS and names no node. Where
-- they keep all rules, the bodies decide. The number of lists is that of the contents.
-- What would break it: Bodies checked before the contents, or a fault passed over, would be caught
-- at its return, and any other number of lists at the last.
use mathlib.Core.Path.{◌≡◌, refl, ap}
use mathlib.Core.List.{List, map}
use Prim.Native.Nat.{ℕ}
use borrow.Author.Tests.{ne_eqb}
use Rattle.std.specs.Prelude.{Ok, Err}
use Rattle.std.proofs.lemmas.Result.{err_from_is_err_and}
use Rattle.answers.specs.Answer.{TAKEN}
use Rattle.answers.specs.declared.refusal.Refusal.{Refusal}
use Rattle.answers.specs.declared.refusal.Fault.{Fault}
use Rattle.answers.specs.Refusal.{number_of, at_no_node, verdict_of}
use Rattle.answers.specs.Verdict.{ANCESTORS, verdict, taken}
use Rattle.answers.proofs.RefusalLaws.{never_taken, fault_refuses}
use Rattle.answers.proofs.VerdictLaws.{refuses, accepts}
use Rattle.numbers.specs.Little.{number_at}
use Rattle.contents.specs.Contents.{lists_in, contents_of, contents_fault}
use Rattle.books.specs.Book.{nodes_of, check_bodies, check_parts, book_verdict_up_to, opened, opened_in, check_book_up_to, check_book}
use Rattle.books.proofs.book.check_book.Goals as goal

module _ (book : List ℕ) where
  broken : (r : Refusal) → number_of r ≡ contents_fault book → opened_in (Err (at_no_node r)) ≡ check_book book
  unfolding check_book_up_to book_verdict_up_to check_parts
  broken r q = rw (← q, ne_eqb (number_of r) TAKEN (never_taken r), refuses (verdict (number_of r) ANCESTORS 0) (never_taken r)) refl

  module _ (kept : ◌≡◌ {A = ℕ} TAKEN (contents_fault book)) where
    refused : (f : Fault) → verdict_of f ≡ check_bodies 0 (map (nodes_of book) (contents_of book)) → opened_in (Err f) ≡ check_book book
    unfolding check_book_up_to book_verdict_up_to check_parts
    refused f q = rw (← kept, ← q, fault_refuses f) refl

    accepted : taken ≡ check_bodies 0 (map (nodes_of book) (contents_of book)) → (lists : ℕ) → lists ≡ number_at book 0
        → opened_in (Ok lists) ≡ check_book book
    unfolding check_book_up_to book_verdict_up_to check_parts lists_in
    accepted q lists n = rw (← kept, ← q, accepts taken refl) (ap (opened taken) n)

pub returns-in_err-check_contents : goal.returns-in_err-check_contents
returns-in_err-check_contents c =
    let p = err_from_is_err_and c.from_residual.result c.from_residual.ensures.1 in
    rw (p.1, p.2) (broken _ _ c.in_err-check_contents.ensures)

pub returns-in_err-check_bodies : goal.returns-in_err-check_bodies
returns-in_err-check_bodies c =
    let p = err_from_is_err_and c.from_residual-in_err-check_bodies.result c.from_residual-in_err-check_bodies.ensures.1 in
    rw (p.1, p.2) (refused _ c.in_ok-check_contents.ensures _ c.in_err-check_bodies.ensures)

pub returns : goal.returns
returns c = accepted _ c.in_ok-check_contents.ensures c.in_ok-check_bodies.ensures _ c.number_at.ensures
