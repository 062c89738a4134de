-- Function: `make_lines` (src/pages.rt).
-- Why it holds: The page hands out no more pairs than there is room for, so the output has all
-- their words. The lines made of these are those of the pairs.
-- What would break it: A part other than what the page wrote, or lines of other words, would be
-- caught at the return.
use borrow.Author.Rules.{rules}
use mathlib.Core.Path.{refl, sym}
use lib.Seq.{length-take-le}
use Prim.Native.Nat.{◌*◌}
use native.Mathlib.Omega.{arith}
use Rattle.tickets.specs.PairWords.{PAIR_WORDS}
use Rattle.printing.proofs.PageLines.{page_few, lines_made}
use Rattle.printing.proofs.pages.make_lines.Goals as goal

pub overflow_mul-words : goal.overflow_mul-words
overflow_mul-words c =
    let a = c.args in
    let few = page_few a.ancestors.now a.descendants.now a.ticket a.out.now _ c.next_page-page.ensures.answer in
    search rules

pub slice_bounds-put_lines-end : goal.slice_bounds-put_lines-end
slice_bounds-put_lines-end c =
    let a = c.args in
    let few = page_few a.ancestors.now a.descendants.now a.ticket a.out.now _ c.next_page-page.ensures.answer in
    search rules

pub slice_bounds-put_lines-end-2 : goal.slice_bounds-put_lines-end-2
slice_bounds-put_lines-end-2 c =
    let a = c.args in
    let few = page_few a.ancestors.now a.descendants.now a.ticket a.out.now _ c.next_page-page.ensures.answer in
    sym (length-take-le _ _ (omega (arith, few)))

pub returns : goal.returns
returns c =
    let a = c.args in
    let made = c.next_page-page.ensures in
    lines_made a.ancestors.now a.descendants.now a.ticket a.out.now _ made.answer _ made.output
    (PAIR_WORDS * c.next_page-page.result.count) refl a.text.now _ _ (omega arith) c.put_lines-bytes.ensures.length c.put_lines-bytes.ensures.text
