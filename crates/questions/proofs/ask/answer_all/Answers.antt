-- Function: `answer_all` (src/ask.rt).
-- Why it holds: Before each turn, what the questions from `index` on make of the rest of the output
-- is what is left of the whole answer. Each turn stores one page and passes its words.
-- What would break it: A question lent another part of the output would be caught where it is lent,
-- and a rest that begins elsewhere at the next turn. A page after the 32nd would be caught at its
-- store.
use borrow.Author.Rules.{rules}
use mathlib.Core.Path.{refl}
use native.Mathlib.Omega.{arith}
use Rattle.questions.proofs.Padding.{padded_none}
use Rattle.questions.proofs.Turns.{first_turn, turn_fits, next_turn, last_turn}
use Rattle.questions.proofs.ask.answer_all.Goals as goal

pub loop-index-init : goal.loop-index-init
loop-index-init c =
    let a = c.args in
    (refl, refl, first_turn a.book.now a.questions.now a.out.now _ (padded_none _ c.no_page-none.ensures))

pub offset_bounds-out-from : goal.offset_bounds-out-from
offset_bounds-out-from c = let good = c.well_formed in omega arith

pub offset_bounds-pages-index : goal.offset_bounds-pages-index
offset_bounds-pages-index c = let most = c.requires.2 in omega arith

pub bounds-pages-index : goal.bounds-pages-index
bounds-pages-index c = let most = c.requires.2 in omega arith

pub overflow_mul-from : goal.overflow_mul-from
overflow_mul-from c =
    let l = c.loop-index in
    let good = c.well_formed in
    let ends = turn_fits c.args.book.now c.args.questions.now c.args.out.now l.out l.pages l.from l.index l.invariant.2
    _ (omega arith) c.requires.2 c.question_at-question.ensures _ c.answer_one-page.ensures.answer in
    omega arith

pub overflow_add-from : goal.overflow_add-from
overflow_add-from c =
    let l = c.loop-index in
    let good = c.well_formed in
    let ends = turn_fits c.args.book.now c.args.questions.now c.args.out.now l.out l.pages l.from l.index l.invariant.2
    _ (omega arith) c.requires.2 c.question_at-question.ensures _ c.answer_one-page.ensures.answer in
    omega arith

pub loop-index-preserved : goal.loop-index-preserved
loop-index-preserved c =
    let l = c.loop-index in (
      search rules,
      search rules,
      next_turn c.args.book.now c.args.questions.now c.args.out.now l.out l.pages l.from l.index l.invariant.2
          _ (omega arith) c.requires.2 c.question_at-question.ensures _ c.answer_one-page.ensures.answer _ c.answer_one-page.ensures.output,
    )

pub returns : goal.returns
returns c =
    let l = c.loop-index in
    let a = c.args in
    last_turn a.book.now a.questions.now a.out.now l.out l.pages l.from l.index l.invariant.2 (omega arith)
