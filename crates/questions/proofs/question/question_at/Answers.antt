-- Function: `question_at` (src/question.rt).
-- Why it holds: The eight words at eight times the index are the question's.
-- What would break it: A word one off would be caught at the return.
use mathlib.Core.Path.{sym}
use native.Mathlib.Omega.{arith}
use Rattle.questions.proofs.QuestionLaws.{question_at_words}
use Rattle.questions.proofs.question.question_at.Goals as goal

pub returns : goal.returns
returns c = sym (question_at_words _ _ (omega arith))
