-- Function: `ask` (src/ask.rt).
-- Why it holds: Each return answers by the first check that refuses: of the questions' words, then
-- of the book. After both, each question is answered in turn.
-- What would break it: A refusal that counts its questions, or loses the node of a faulty book,
-- would be caught at its return.
use mathlib.Core.Path.{sym, ap, ◌∙◌}
use native.Mathlib.Omega.{arith}
use Rattle.answers.specs.Refusal.{verdict_of}
use Rattle.questions.specs.Question.{questions_in}
use Rattle.questions.specs.Ask.{refused_pages, padded}
use Rattle.questions.proofs.Answering.{call_refused, call_answered, book_refused, book_good}
use Rattle.questions.proofs.QuestionLaws.{few_questions}
use Rattle.questions.proofs.ask.ask.Goals as goal
use Rattle.questions.proofs.ask.ask.Goals.{in-Ok, in-Err-check_book}

pub returns-in-Err : goal.returns-in-Err
returns-in-Err c =
    let a = c.args in
    rw c.into.ensures
    (call_refused a.book.now a.questions.now a.out.now _ c.in-Err.ensures _
    (c.refuse_all.ensures ∙ ap (λ v. padded (refused_pages v (questions_in a.questions.now))) (c.into-in-Err.ensures ∙ ap verdict_of c.from.ensures)))

pub overflow_cast-result : goal.overflow_cast-result
overflow_cast-result c = omega (arith, few_questions _ (sym c.in_default.ensures), c.question_count.ensures)

pub answer_book-pages-requires : goal.answer_book-pages-requires
answer_book-pages-requires c =
    let a = c.args in
    book_good a.book.now a.questions.now a.out.now c.in_default.ensures _ c.in-Ok.ensures

pub returns : goal.returns
returns c =
    let a = c.args in
    elim c.match-check_book.branch [
      | in-Ok w ↦ rw (w.pages-is, w.out-is)
          (call_answered a.book.now a.questions.now a.out.now c.in_default.ensures _ c.question_count.ensures
          _ _ w.answer_book-pages.ensures.answer w.answer_book-pages.ensures.output)
      | in-Err-check_book w ↦ rw (w.pages-is, w.out-is)
          (book_refused a.book.now a.questions.now a.out.now c.in_default.ensures _ w.in-Err-check_book.ensures _ c.question_count.ensures _
          (w.refuse_all-pages.ensures ∙ ap (λ v. padded (refused_pages v (questions_in a.questions.now))) w.into-in-Err-check_book.ensures))
    ]
