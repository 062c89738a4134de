-- docs/SCOPE.md, "Several questions in one call": the words of the questions, and when they refuse
-- the whole call.
use Rattle.std.specs.Prelude.{ℕ, ◌/◌, ◌%◌, cond, List, [], ◌∷◌, leb, eqb, length, get_or}
use Rattle.answers.specs.Answer.{TAKEN, RAGGED, LONG}
use Rattle.ticket_words.specs.declared.words.TicketWords.{TicketWords}
use Rattle.questions.specs.declared.question.Question.{Question}

-- How many words a question takes: two tags, and the six of a ticket.
abbrev pub QUESTION_WORDS : ℕ
QUESTION_WORDS = 8

-- The most questions of one call.
abbrev pub MOST_QUESTIONS : ℕ
MOST_QUESTIONS = 32

-- The ticket of six words.
abbrev pub ticket_words : ℕ → ℕ → ℕ → ℕ → ℕ → ℕ → TicketWords
ticket_words relation order placed document first second =
    record { relation = relation; order = order; placed = placed; document = document; first = first; second = second }

-- The question with the tags of the ancestors and of the descendants, and a ticket.
abbrev pub question : ℕ → ℕ → TicketWords → Question
question ancestors descendants ticket = record { ancestors = ancestors; descendants = descendants; ticket = ticket }

-- The questions that the words make, eight words each; up to seven words at the end are left over.
unfoldable pub questions_in : List ℕ → List Question
questions_in [] = []
questions_in (a ∷ []) = []
questions_in (a ∷ d ∷ []) = []
questions_in (a ∷ d ∷ r ∷ []) = []
questions_in (a ∷ d ∷ r ∷ o ∷ []) = []
questions_in (a ∷ d ∷ r ∷ o ∷ p ∷ []) = []
questions_in (a ∷ d ∷ r ∷ o ∷ p ∷ k ∷ []) = []
questions_in (a ∷ d ∷ r ∷ o ∷ p ∷ k ∷ f ∷ []) = []
questions_in (a ∷ d ∷ r ∷ o ∷ p ∷ k ∷ f ∷ s ∷ words) = question a d (ticket_words r o p k f s) ∷ questions_in words

-- How many whole questions the words make.
abbrev pub question_count : List ℕ → ℕ
question_count words = length words / QUESTION_WORDS

-- The question at an index, or one of zeros where there is none.
unfoldable pub question_at : List ℕ → ℕ → Question
question_at words index = get_or (questions_in words) index (question 0 0 (ticket_words 0 0 0 0 0 0))

-- The whole call's answer: RAGGED where the words don't make whole questions, then LONG for more
-- than 32 questions.
unfoldable pub check_questions : List ℕ → ℕ
check_questions words = cond (eqb (length words % QUESTION_WORDS) 0) (cond (leb (question_count words) MOST_QUESTIONS) TAKEN LONG) RAGGED
