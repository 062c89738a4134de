-- Function: `answer_one` (src/ask.rt).
-- Why it holds: The words lent have room for the longest list. So the copying refuses exactly where
-- the question's lists aren't found. Otherwise the page call gets both lists whole.
-- What would break it: A list cut short, the page of another ticket, or a refusal that writes would
-- be caught at its return.
use Prim.Native.Nat.{◌-◌}
use native.Mathlib.Omega.{arith}
use Rattle.ticket_words.proofs.Shown.{page_shown}
use Rattle.questions.proofs.Answering.{question_refused, lengths_fit, question_answered}
use Rattle.questions.proofs.ask.answer_one.Goals as goal

pub returns-in-Err : goal.returns-in-Err
returns-in-Err c =
    let a = c.args in
    rw (c.refused_page.ensures, c.into.ensures, c.from-in-Err.ensures)
    (question_refused a.book.now a.lists a.question a.first.now a.second.now c.requires _ c.copy_lists-copied.ensures.answer _ c.in-Err.is a.out.now)

pub slice_bounds-next_page-end : goal.slice_bounds-next_page-end
slice_bounds-next_page-end c =
    let a = c.args in
    let f = lengths_fit a.book.now a.lists a.question a.first.now a.second.now c.requires _ c.copy_lists-copied.ensures.answer _ c.in-Ok.is in
    omega (arith, f.0, c.requires.2)

pub slice_bounds-next_page-end-in-Ok : goal.slice_bounds-next_page-end-in-Ok
slice_bounds-next_page-end-in-Ok c =
    let a = c.args in
    let f = lengths_fit a.book.now a.lists a.question a.first.now a.second.now c.requires _ c.copy_lists-copied.ensures.answer _ c.in-Ok.is in
    omega (arith, f.1, c.requires.3)

pub returns-in-Ok : goal.returns-in-Ok
returns-in-Ok c =
    let a = c.args in
    let e = c.next_page-page.ensures in
    let p = page_shown _ _ _ _ _ c.from.ensures _ _ c.shown_page.ensures e.answer _ e.output in
    question_answered a.book.now a.lists a.question a.first.now a.second.now c.requires _ c.copy_lists-copied.ensures.answer _ c.in-Ok.is
    _ _ c.copy_lists-copied.ensures.first_output c.copy_lists-copied.ensures.second_output
    (c.in-Ok.lengths.ancestors - 0) (c.in-Ok.lengths.descendants - 0) (omega arith) (omega arith)
    _ _ _ p.answer p.output
