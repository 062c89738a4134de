-- docs/SCOPE.md, "Several questions in one call": what each question is answered, and what the
-- whole call answers and writes.
use Rattle.std.specs.Prelude.{ℕ, ◌*◌, cond, List, [], ◌∷◌, ◌++◌, map, eqb, length, take, drop, replicate}
use Rattle.answers.specs.Answer.{TAKEN, ABSENT}
use Rattle.answers.specs.declared.verdict.Verdict.{Verdict}
use Rattle.answers.specs.Verdict.{ANCESTORS, verdict, taken, refusedb}
use Rattle.contents.specs.Contents.{MOST_LISTS, lists_in}
use Rattle.tickets.specs.PairWords.{PAIR_WORDS}
use Rattle.pairs.specs.Page.{page_of, output_after}
use Rattle.ticket_words.specs.declared.page.PageWords.{PageWords}
use Rattle.ticket_words.specs.declared.words.TicketWords.{TicketWords}
use Rattle.ticket_words.specs.Page.{shown_page}
use Rattle.ticket_words.specs.Words.{ticket_of}
use Rattle.books.specs.Book.{book_verdict_up_to}
use Rattle.joins.specs.Join.{tag_words, thereb}
use Rattle.questions.specs.declared.ask.Pages.{Pages}
use Rattle.questions.specs.declared.question.Question.{Question}
use Rattle.questions.specs.Question.{MOST_QUESTIONS, ticket_words, questions_in, check_questions}

-- The words of the list that a book has under a tag.
abbrev pub list_under : List ℕ → ℕ → List ℕ
list_under book tag = tag_words book (lists_in book) tag

-- The page of a question that is refused: it isn't done, counts nothing and returns its ticket.
abbrev pub refused_page : Verdict → TicketWords → PageWords
refused_page v ticket = record { verdict = v; done = 0; count = 0; ticket = ticket }

-- Asking where a book may have up to `most` lists.
module _ (most : ℕ) (book : List ℕ) where
  -- Whether a book has lists under two tags: the book's own answer, then ABSENT unless both tags
  -- are there.
  unfoldable pub find_lists_up_to : ℕ → ℕ → Verdict
  find_lists_up_to ancestors descendants =
      cond (refusedb (book_verdict_up_to most book)) (book_verdict_up_to most book)
      (cond (thereb book (lists_in book) ancestors descendants) taken (verdict ABSENT ANCESTORS 0))

  -- One question to a book, with an output of its own.
  module _ (q : Question) (out : List ℕ) where
    -- Whether it finds its two lists.
    abbrev finds : Verdict
    finds = find_lists_up_to q.ancestors q.descendants

    -- Its page: a refusal, or that of a single call on the two lists. Such a call may answer JOINT.
    unfoldable pub page_to_up_to : PageWords
    page_to_up_to =
        cond (refusedb finds) (refused_page finds q.ticket)
        (shown_page q.ticket (page_of (list_under book q.ancestors) (list_under book q.descendants) (ticket_of q.ticket) out))

    -- The output on return: as it was where the lists aren't found, or as the single call leaves
    -- it.
    unfoldable pub output_to_up_to : List ℕ
    output_to_up_to =
        cond (refusedb finds) out
        (output_after (list_under book q.ancestors) (list_under book q.descendants) (ticket_of q.ticket) out)

    -- How many words of the output the question takes: eight for each pair that it writes.
    unfoldable pub words_taken_up_to : ℕ
    words_taken_up_to = PAIR_WORDS * page_to_up_to.count

  -- The pages of several questions in turn. Each has the rest of the output, from where the one
  -- before stopped.
  unfoldable pub pages_to_up_to : List Question → List ℕ → List PageWords
  pages_to_up_to [] out = []
  pages_to_up_to (q ∷ qs) out = page_to_up_to q out ∷ pages_to_up_to qs (drop (words_taken_up_to q out) (output_to_up_to q out))

  -- The output after all of them.
  unfoldable pub output_after_all_up_to : List Question → List ℕ → List ℕ
  output_after_all_up_to [] out = out
  output_after_all_up_to (q ∷ qs) out =
      let n = words_taken_up_to q out in
      take n (output_to_up_to q out) ++ output_after_all_up_to qs (drop n (output_to_up_to q out))

-- The pages of questions that are all refused with one verdict.
unfoldable pub refused_pages : Verdict → List Question → List PageWords
refused_pages v qs = map (λ q. refused_page v q.ticket) qs

-- A page of zeros. TAKEN is 0, so it is what a refusal with TAKEN and a ticket of zeros would be.
abbrev pub no_page : PageWords
no_page = refused_page taken (ticket_words 0 0 0 0 0 0)

-- Exactly 32 pages: the first of the given pages, then pages of zeros.
unfoldable pub padded : List PageWords → List PageWords
padded ps = take MOST_QUESTIONS (ps ++ replicate MOST_QUESTIONS no_page)

-- What a call answers: the answer of the whole, how many questions were answered, and the pages.
abbrev pub with_pages : ℕ → ℕ → List PageWords → Pages
with_pages answer questions ps = record { answer = answer; questions = questions; pages = padded ps }

-- A call with a book, the words of its questions and an output, where a book may have up to `most`
-- lists.
module _ (most : ℕ) (book words out : List ℕ) where
  -- What it answers. If it is refused as a whole, each of the first 32 questions has a page with
  -- that answer.
  unfoldable pub ask_of_up_to : Pages
  ask_of_up_to =
      let qs = questions_in words in
      let answer = check_questions words in
      cond (eqb answer TAKEN) (with_pages TAKEN (length qs) (pages_to_up_to most book qs out))
      (with_pages answer 0 (refused_pages (verdict answer ANCESTORS 0) qs))

  -- The output on return.
  unfoldable pub ask_output_up_to : List ℕ
  ask_output_up_to = cond (eqb (check_questions words) TAKEN) (output_after_all_up_to most book (questions_in words) out) out

-- What the library itself finds, answers and writes.
abbrev pub find_lists : List ℕ → ℕ → ℕ → Verdict
find_lists book ancestors descendants = find_lists_up_to MOST_LISTS book ancestors descendants

abbrev pub page_to : List ℕ → Question → List ℕ → PageWords
page_to book q out = page_to_up_to MOST_LISTS book q out

abbrev pub output_to : List ℕ → Question → List ℕ → List ℕ
output_to book q out = output_to_up_to MOST_LISTS book q out

abbrev pub words_taken : List ℕ → Question → List ℕ → ℕ
words_taken book q out = words_taken_up_to MOST_LISTS book q out

abbrev pub pages_to : List ℕ → List Question → List ℕ → List PageWords
pages_to book qs out = pages_to_up_to MOST_LISTS book qs out

abbrev pub output_after_all : List ℕ → List Question → List ℕ → List ℕ
output_after_all book qs out = output_after_all_up_to MOST_LISTS book qs out

abbrev pub ask_of : List ℕ → List ℕ → List ℕ → Pages
ask_of book words out = ask_of_up_to MOST_LISTS book words out

abbrev pub ask_output : List ℕ → List ℕ → List ℕ → List ℕ
ask_output book words out = ask_output_up_to MOST_LISTS book words out
