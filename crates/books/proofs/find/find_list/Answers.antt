-- Function: `find_list` (src/find.rt).
-- Why it holds: The book's own refusal comes first, then ABSENT where it has fewer lists than
-- wanted. Otherwise the entry at the position says where the body lies.
-- What would break it: A list found in a refused book, an empty list called absent, or another
-- entry's body would be caught at its return.
use Rattle.std.proofs.lemmas.Result.{err_from_is_err_and}
use Rattle.books.proofs.FindLaws.{nothing_found, none_there, body_there}
use Rattle.books.proofs.find.find_list.Goals as goal

pub returns-in_err-lists : goal.returns-in_err-lists
returns-in_err-lists c =
    let p = err_from_is_err_and c.from_residual.result c.from_residual.ensures.1 in
    rw (p.1, p.2) (nothing_found _ _ c.in_err-lists.ensures _)

pub returns-then-lists-position : goal.returns-then-lists-position
returns-then-lists-position c = rw c.into.ensures (none_there _ _ c.in_ok-lists.ensures _ c.if-lists-position.true)

pub returns : goal.returns
returns c = rw c.body_at.ensures (body_there _ _ c.in_ok-lists.ensures _ c.if-lists-position.false)
