-- Function: `print_two` (src/print.rt).
-- Why it holds: The two lists are copied whole, since the words lent have room for the longest. So
-- the pages are those of the book's first list and second.
-- What would break it: A list whose end was left out of the words, or one joined with itself, would
-- be caught at the return.
use mathlib.Core.Path.{refl, sym, ◌∙◌}
use native.Mathlib.Omega.{arith}
use lib.Seq.{length-take-le}
use Rattle.lists.specs.Two.{check_two}
use Rattle.printing.proofs.Answering.{none_refused, lengths_fit, own_lists}
use Rattle.printing.proofs.print.print_two.Goals as goal

pub returns-in_err-lengths : goal.returns-in_err-lengths
returns-in_err-lengths c =
    absurd (none_refused c.args.book.now c.args.lists c.requires _ _ c.entry_at-ancestors.ensures c.entry_at-descendants.ensures
    _ _ (omega arith) (omega arith) _ c.in_err-lengths.ensures.answer)

pub slice_bounds-first-end : goal.slice_bounds-first-end
slice_bounds-first-end c =
    let f = lengths_fit c.args.book.now c.args.lists c.requires _ _ c.entry_at-ancestors.ensures c.entry_at-descendants.ensures
    _ _ (omega arith) (omega arith) _ c.in_ok-lengths.ensures.answer in
    omega (arith, f.0)

pub slice_bounds-print_pages-end : goal.slice_bounds-print_pages-end
slice_bounds-print_pages-end c =
    let f = lengths_fit c.args.book.now c.args.lists c.requires _ _ c.entry_at-ancestors.ensures c.entry_at-descendants.ensures
    _ _ (omega arith) (omega arith) _ c.in_ok-lengths.ensures.answer in
    sym (length-take-le _ _ (omega (arith, f.0)))

pub slice_bounds-second-end : goal.slice_bounds-second-end
slice_bounds-second-end c =
    let f = lengths_fit c.args.book.now c.args.lists c.requires _ _ c.entry_at-ancestors.ensures c.entry_at-descendants.ensures
    _ _ (omega arith) (omega arith) _ c.in_ok-lengths.ensures.answer in
    omega (arith, f.1)

pub slice_bounds-print_pages-end-2 : goal.slice_bounds-print_pages-end-2
slice_bounds-print_pages-end-2 c =
    let f = lengths_fit c.args.book.now c.args.lists c.requires _ _ c.entry_at-ancestors.ensures c.entry_at-descendants.ensures
    _ _ (omega arith) (omega arith) _ c.in_ok-lengths.ensures.answer in
    sym (length-take-le _ _ (omega (arith, f.1)))

pub returns : goal.returns
returns c =
    let own = own_lists c.args.book.now c.args.lists c.requires _ _ c.entry_at-ancestors.ensures c.entry_at-descendants.ensures
    _ _ (omega arith) (omega arith) _ c.in_ok-lengths.ensures.answer _ _ c.in_ok-lengths.ensures.first_output c.in_ok-lengths.ensures.second_output
    c.in_ok-lengths.lengths.ancestors c.in_ok-lengths.lengths.descendants refl refl in
    c.print_pages.ensures ∙ λ i. (check_two (own.0 i) (own.1 i)).answer
