-- Function: `print_pairs` (src/pages.rt).
-- Why it holds: The pairs counted and those that remain are always all. A page that isn't done
-- leaves fewer, so the loop ends. Once a page is done all pairs are counted.
-- Measure: `left ancestors descendants ticket`, the pairs that remain for the ticket.
-- What would break it: A refusal returned as TAKEN would be caught at its return. A page without
-- room would be caught at the loop's measure, and a count that could overflow at its sum.
use borrow.Author.Rules.{rules}
use mathlib.Core.Path.{refl, sym, ◌∙◌}
use native.Mathlib.Omega.{arith}
use Rattle.printing.proofs.Counting.{counted_none, counted_more, counted_all, counted_less, counted_few}
use Rattle.printing.proofs.PageLines.{page_answer}
use Rattle.printing.proofs.pages.print_pairs.Goals as goal

pub loop-stdout-init : goal.loop-stdout-init
loop-stdout-init c =
    let a = c.args in
    (refl, refl, counted_none a.ancestors.now a.descendants.now _ c.fresh-ticket.ensures)

pub returns-then-is_err : goal.returns-then-is_err
returns-then-is_err c =
    let made = c.make_lines-lines.ensures.page in
    record { answer = sym c.if-page-ne-TAKEN.false ∙ page_answer _ _ _ _ _ made; count = tt }

pub overflow_add-count : goal.overflow_add-count
overflow_add-count c =
    let made = c.make_lines-lines.ensures.page in
    let at = c.loop-stdout in
    let a = c.args in
    let taken = sym (page_answer _ _ _ _ _ made) ∙ c.if-page-ne-TAKEN.false in
    let few = counted_few a.ancestors.now a.descendants.now at.ticket at.count at.invariant.2 at.out _ made taken in
    omega (arith, few)

pub returns-then-page : goal.returns-then-page
returns-then-page c =
    let made = c.make_lines-lines.ensures.page in
    let at = c.loop-stdout in
    let a = c.args in
    let taken = sym (page_answer _ _ _ _ _ made) ∙ c.if-page-ne-TAKEN.false in
    record {
      answer = sym taken;
      count = counted_all a.ancestors.now a.descendants.now at.ticket at.count at.invariant.2 at.out _ made taken c.if-page.true;
    }

pub loop-stdout-smaller : goal.loop-stdout-smaller
loop-stdout-smaller c =
    let made = c.make_lines-lines.ensures.page in
    let at = c.loop-stdout in
    let a = c.args in
    let taken = sym (page_answer _ _ _ _ _ made) ∙ c.if-page-ne-TAKEN.false in
    counted_less a.ancestors.now a.descendants.now at.ticket at.count at.invariant.2 at.out _ made taken c.if-page.false (omega (arith, at.invariant.0, c.requires.0))

pub loop-stdout-preserved : goal.loop-stdout-preserved
loop-stdout-preserved c =
    let made = c.make_lines-lines.ensures.page in
    let at = c.loop-stdout in
    let a = c.args in
    let taken = sym (page_answer _ _ _ _ _ made) ∙ c.if-page-ne-TAKEN.false in
    (search rules, search rules, counted_more a.ancestors.now a.descendants.now at.ticket at.count at.invariant.2 at.out _ made taken)
