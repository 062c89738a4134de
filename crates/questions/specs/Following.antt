-- One question followed through calls. Each time it asks with the ticket that the last call
-- returned for it. Its place among the questions, the others, the book and the output change from
-- call to call as anyone likes.
use Rattle.std.specs.Prelude.{ℕ, suc, ◌+◌, ◌*◌, ◌≡◌, cond, List, [], ◌∷◌, ◌++◌, leb, eqb, length, get_or, take, drop}
use Rattle.answers.specs.Answer.{TAKEN, LONG}
use Rattle.answers.specs.declared.verdict.Verdict.{Verdict}
use Rattle.answers.specs.Output.{words_in}
use Rattle.answers.specs.Verdict.{ANCESTORS, verdict}
use Rattle.nodes.specs.Words.{nodes}
use Rattle.tickets.specs.Listing.{Pair}
use Rattle.tickets.specs.PairWords.{PAIR_WORDS, pairs_in}
use Rattle.pairs.specs.Calls.{Call}
use Rattle.ticket_words.specs.declared.page.PageWords.{PageWords}
use Rattle.ticket_words.specs.declared.words.TicketWords.{TicketWords}
use Rattle.questions.specs.declared.ask.Pages.{Pages}
use Rattle.questions.specs.declared.question.Question.{Question}
use Rattle.questions.specs.Ask.{list_under, refused_page, pages_to, no_page, ask_of, ask_output}
use Rattle.questions.specs.Demanded.{question_words, verdict_on, count_in}
use Rattle.questions.specs.Question.{MOST_QUESTIONS, question}

-- What a call is lent in addition to the followed question's ticket: a book, that question's two
-- tags, the questions before it and after it, and an output. The call's words make whole questions,
-- so it is never RAGGED.
pub record Batch : Type 0 where
  pub book : List ℕ
  pub before : List Question
  pub ancestors : ℕ
  pub descendants : ℕ
  pub after : List Question
  pub out : List ℕ

-- The questions of the call, and their words, where the one that is followed has these six words as
-- its ticket.
abbrev pub questions_with : TicketWords → Batch → List Question
questions_with w b = b.before ++ question b.ancestors b.descendants w ∷ b.after

abbrev pub words_with : TicketWords → Batch → List ℕ
words_with w b = words_in question_words (questions_with w b)

-- What the call answers, and its output on return.
abbrev pub answer_with : TicketWords → Batch → Pages
answer_with w b = ask_of b.book (words_with w b) b.out

abbrev pub output_with : TicketWords → Batch → List ℕ
output_with w b = ask_output b.book (words_with w b) b.out

-- The page of the question that is followed: the one at its index, or, if the whole call is
-- refused, a refusal with the call's answer.
unfoldable pub page_in : TicketWords → Batch → PageWords
page_in w b =
    let answer = (answer_with w b).answer in
    cond (eqb answer TAKEN) (get_or (answer_with w b).pages (length b.before) no_page)
    (refused_page (verdict answer ANCESTORS 0) w)

-- The pairs that the question hands out. The caller finds them in the output, after those that the
-- pages before count, and as many as its own page counts.
unfoldable pub shown_in : TicketWords → Batch → List Pair
shown_in w b = take (page_in w b).count (drop (count_in (take (length b.before) (answer_with w b).pages)) (pairs_in (nodes (output_with w b))))

-- The verdict on the question that is followed: LONG for more than 32 questions, then its own.
unfoldable pub verdict_in : Batch → Verdict
verdict_in b =
    cond (leb (length b.before + suc (length b.after)) MOST_QUESTIONS) (verdict_on b.book b.ancestors b.descendants)
    (verdict LONG ANCESTORS 0)

-- The question is accepted in this call.
abbrev pub AcceptedIn : Batch → Type 0
AcceptedIn b = (verdict_in b).answer ≡ TAKEN

-- The single call that the question amounts to: the lists under its two tags, and the rest of the
-- output, after the pairs of the questions before it. `pages_to` counts those pairs, since the
-- pages before don't depend on the ticket of the question that is followed.
abbrev pub call_in : Batch → Call
call_in b = record {
  ancestors = list_under b.book b.ancestors;
  descendants = list_under b.book b.descendants;
  out = drop (PAIR_WORDS * count_in (pages_to b.book b.before b.out)) b.out;
}

-- The words after a sequence of calls.
unfoldable pub ticket_after_batches : TicketWords → List Batch → TicketWords
ticket_after_batches w [] = w
ticket_after_batches w (b ∷ bs) = ticket_after_batches (page_in w b).ticket bs

-- All pairs that the question hands out through a sequence of calls, in the order in which they
-- came.
unfoldable pub shown_in_batches : TicketWords → List Batch → List Pair
shown_in_batches w [] = []
shown_in_batches w (b ∷ bs) = shown_in w b ++ shown_in_batches (page_in w b).ticket bs
