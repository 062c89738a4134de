-- Function: `check_questions` (src/question.rt).
-- Why it holds: Words left over after the last whole question answer RAGGED, and more than 32
-- questions answer LONG.
-- What would break it: 33 questions taken, or words left over that are passed by, would be caught
-- at the return.
use mathlib.Core.Path.{sym}
use native.Mathlib.Omega.{arith}
use Rattle.questions.proofs.QuestionLaws.{checked_ragged, checked_long, checked_taken}
use Rattle.questions.proofs.question.check_questions.Goals as goal

pub returns-then-words-ne0 : goal.returns-then-words-ne0
returns-then-words-ne0 c = sym (checked_ragged _ (λ e. omega arith))

pub returns-then-question_count-gt-MOST_QUESTIONS : goal.returns-then-question_count-gt-MOST_QUESTIONS
returns-then-question_count-gt-MOST_QUESTIONS c = sym (checked_long _ (omega arith) (omega arith))

pub returns : goal.returns
returns c = sym (checked_taken _ (omega arith) (omega arith))
