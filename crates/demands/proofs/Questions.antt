-- The demands on several questions in one call (docs/SCOPE.md, "Several questions in one call").
-- Each clause is a comment in words and, below it, the theorem that says it. `ask_of` and
-- `ask_output` are what the contract of `ask` promises. The other words of the theorems are in
-- crates/questions/specs/. A question that was lent the wrong part of the output, or that its
-- neighbours disturbed, would be caught here.
use mathlib.Core.Path.{◌≡◌}
use mathlib.Core.Logic.{◌↔◌, ◌⊎◌}
use mathlib.Core.Bool.{true, false}
use mathlib.Core.List.{List, [], ◌∷◌, ◌++◌}
use Prim.Native.Nat.{ℕ, suc, ◌%◌, ◌≤◌, ◌<◌}
use lib.ListN.{length, get_or, take, drop}
use Rattle.answers.specs.Answer.{TAKEN, RAGGED, LONG, JOINT}
use Rattle.answers.specs.Output.{words_in, written}
use Rattle.answers.specs.Verdict.{ANCESTORS, verdict, taken}
use Rattle.laws.specs.Choose.{All, EveryTwo, In}
use Rattle.nodes.specs.Words.{nodes}
use Rattle.contents.specs.Contents.{lists_in, contents_fault}
use Rattle.lists.specs.Refusal.{AtOdds}
use Rattle.tickets.specs.Listing.{Pair, askedb}
use Rattle.tickets.specs.PairWords.{pair_words, room}
use Rattle.tickets.specs.Ticket.{Asked, asked_by}
use Rattle.pairs.specs.Calls.{StandsIn, SameStarts}
use Rattle.ticket_words.specs.declared.page.PageWords.{PageWords}
use Rattle.ticket_words.specs.declared.words.TicketWords.{TicketWords}
use Rattle.ticket_words.specs.Words.{ticket_of}
use Rattle.books.specs.Book.{book_verdict}
use Rattle.books.specs.Refusal.{HasFaultyList}
use Rattle.books.proofs.Refused.{book_refused_iff}
use Rattle.joins.specs.Join.{thereb}
use Rattle.questions.specs.declared.ask.Pages.{Pages}
use Rattle.questions.specs.declared.question.Question.{Question}
use Rattle.questions.specs.Ask.{list_under, refused_page, no_page, ask_of, ask_output}
use Rattle.questions.specs.Demanded.{question_words, verdict_on, count_in, single_pages, pairs_in_turn}
use Rattle.questions.specs.Following.{Batch, answer_with, page_in, shown_in, verdict_in, AcceptedIn, call_in, ticket_after_batches, shown_in_batches}
use Rattle.questions.specs.Question.{QUESTION_WORDS, MOST_QUESTIONS, questions_in, question_count, question_at}
use Rattle.questions.proofs.Answered.{ask_ragged_iff, ask_long_iff, ask_taken_iff, ask_pages, ask_beyond, refused_asked, refused_output, refused_page_at}
use Rattle.questions.proofs.Answered.{taken_asked, taken_pages, taken_output, taken_counted, verdict_at_lem, refused_at_iff, refused_at}
use Rattle.questions.proofs.Batches.{none_lost_in, none_twice_in, verdict_in_lem, page_at_index, refused_in, none_in, own_lists_in, fills_room_in}
use Rattle.questions.proofs.Neighbours.{before_stay, after_move_up, same_output}
use Rattle.questions.proofs.Refusals.{only_joint}

-- A call is lent a book, the words of its questions, and an output.
module _ (book words out : List ℕ) where
  abbrev answered : Pages
  answered = ask_of book words out

  -- The page at an index. There is one at each index below 32, so `no_page` is never read there.
  abbrev page_at : ℕ → PageWords
  page_at i = get_or answered.pages i no_page

  -- The whole call is answered RAGGED exactly when the words don't make whole questions,
  pub asking_ragged_exactly_when : (answered.answer ≡ RAGGED) ↔ (length words % QUESTION_WORDS ≡ 0 → ⊥)
  asking_ragged_exactly_when = ask_ragged_iff book words out

  -- LONG exactly when they do, and there are more than 32,
  pub asking_long_exactly_when : (answered.answer ≡ LONG) ↔ ((length words % QUESTION_WORDS ≡ 0) × (MOST_QUESTIONS < question_count words))
  asking_long_exactly_when = ask_long_iff book words out

  -- and TAKEN otherwise.
  pub asking_taken_exactly_when : (answered.answer ≡ TAKEN) ↔ ((length words % QUESTION_WORDS ≡ 0) × (question_count words ≤ MOST_QUESTIONS))
  asking_taken_exactly_when = ask_taken_iff book words out

  -- There are always 32 pages,
  pub always_as_many_pages : length answered.pages ≡ MOST_QUESTIONS
  always_as_many_pages = ask_pages book words out

  -- and those after the last question are zeros.
  pub no_question_no_page : (i : ℕ) → question_count words ≤ i → i < MOST_QUESTIONS → (d : PageWords) → get_or answered.pages i d ≡ no_page
  no_question_no_page = ask_beyond book words out

  -- If the whole call is refused, it answers no question and alters no word. Each of the first 32
  -- questions has a page with that answer and its own ticket.
  pub refused_whole_answers_none : (answered.answer ≡ TAKEN → ⊥) → (answered.questions ≡ 0) × (ask_output book words out ≡ out)
      × ((i : ℕ) → i < question_count words → i < MOST_QUESTIONS
      → page_at i ≡ refused_page (verdict answered.answer ANCESTORS 0) (question_at words i).ticket)
  refused_whole_answers_none refused =
      (refused_asked book words out refused, refused_output book words out refused, refused_page_at book words out refused)

  -- Where it isn't refused:
  module _ (accepted : answered.answer ≡ TAKEN) where
    -- It answers every question.
    pub answers_every_question : answered.questions ≡ question_count words
    answers_every_question = taken_asked book words out accepted

    -- The pages are those of single calls made in that order, each with the room that the ones
    -- before left.
    pub pages_are_of_single_calls : take (question_count words) answered.pages ≡ single_pages book out 0 (questions_in words)
    pages_are_of_single_calls = taken_pages book words out accepted

    -- The output begins with the pairs that these calls hand out, and no word after them is
    -- altered.
    pub output_has_the_pairs_in_turn : ask_output book words out ≡ written (words_in pair_words (pairs_in_turn book out 0 (questions_in words))) out
    output_has_the_pairs_in_turn = taken_output book words out accepted

    -- There are as many pairs as the pages count.
    pub as_many_pairs_as_counted : length (pairs_in_turn book out 0 (questions_in words)) ≡ count_in answered.pages
    as_many_pairs_as_counted = taken_counted book words out accepted

    module _ (i : ℕ) (there : i < question_count words) where
      abbrev asks : Question
      asks = question_at words i

      -- Each question has its own verdict,
      pub question_has_its_verdict : (page_at i).verdict ≡ verdict_on book asks.ancestors asks.descendants
      question_has_its_verdict = verdict_at_lem book words out accepted i there

      -- and is refused exactly when the book is, a tag isn't there, or two nodes, one of each list,
      -- are at odds.
      pub question_refused_exactly_when : ((page_at i).verdict.answer ≡ TAKEN → ⊥) ↔ (((book_verdict book).answer ≡ TAKEN → ⊥)
          ⊎ ((thereb book (lists_in book) asks.ancestors asks.descendants ≡ false)
          ⊎ AtOdds (nodes (list_under book asks.ancestors)) (nodes (list_under book asks.descendants))))
      question_refused_exactly_when = refused_at_iff book words out accepted i there

      -- A refused question isn't done, counts nothing and returns its ticket.
      pub refused_question_takes_nothing : ((page_at i).verdict.answer ≡ TAKEN → ⊥)
          → page_at i ≡ refused_page (verdict_on book asks.ancestors asks.descendants) asks.ticket
      refused_question_takes_nothing = refused_at book words out accepted i there

-- A book is refused exactly when its contents break a rule or one of its lists has a fault, whether
-- or not a question asks about that list.
pub book_refused_exactly_when : (book : List ℕ) → ((book_verdict book).answer ≡ TAKEN → ⊥)
    ↔ ((contents_fault book ≡ TAKEN → ⊥) ⊎ HasFaultyList book)
book_refused_exactly_when = book_refused_iff

-- If the book is accepted and both tags are there, no other refusal than JOINT is left.
pub only_joint_is_left : (book : List ℕ) (ancestors descendants : ℕ) → (book_verdict book).answer ≡ TAKEN
    → thereb book (lists_in book) ancestors descendants ≡ true
    → (verdict_on book ancestors descendants ≡ taken) ⊎ (verdict_on book ancestors descendants ≡ verdict JOINT ANCESTORS 0)
only_joint_is_left = only_joint

-- A refused question's neighbours answer as if it weren't there. Leave it out:
module _ (book : List ℕ) (before : List Question) (q : Question) (after : List Question) (out : List ℕ)
    (few : length (before ++ q ∷ after) ≤ MOST_QUESTIONS) (refused : (verdict_on book q.ancestors q.descendants).answer ≡ TAKEN → ⊥) where
  abbrev with : List ℕ
  with = words_in question_words (before ++ q ∷ after)

  abbrev without : List ℕ
  without = words_in question_words (before ++ after)

  -- the pages before it stay,
  pub neighbours_before_stay : take (length before) (ask_of book with out).pages ≡ take (length before) (ask_of book without out).pages
  neighbours_before_stay = before_stay book before q after out few refused

  -- those after it move up by one,
  pub neighbours_after_move_up : drop (suc (length before)) (ask_of book with out).pages ++ no_page ∷ []
      ≡ drop (length before) (ask_of book without out).pages
  neighbours_after_move_up = after_move_up book before q after out few refused

  -- and the output is the same.
  pub neighbours_write_the_same : ask_output book with out ≡ ask_output book without out
  neighbours_write_the_same = same_output book before q after out few refused

-- Demand 3 for one question. It is followed from a fresh ticket through any calls bs and then b.
-- Each takes the ticket that the last one returned for it. The book, its tags, its place among the
-- questions, the other questions and the output change at will in between. A call whose words don't
-- make whole questions isn't among these calls. It hands out nothing, and returns the tickets of
-- the whole questions among its first 32 (`refused_whole_answers_none`). `w` is any six words that
-- stand for a fresh ticket.
module _ (w : TicketWords) (fresh : w.placed ≡ 0) where
  abbrev wanted : Asked
  wanted = asked_by (ticket_of w)

  -- When b accepts it and says done, each related pair that stood unaltered in the lists under its
  -- tags, in every call that accepted it, has been handed out.
  pub no_pair_of_a_question_lost : (bs : List Batch) (b : Batch) → AcceptedIn b → (page_in (ticket_after_batches w bs) b).done ≡ 1
      → (p : Pair) → askedb wanted p ≡ true → All (λ k. AcceptedIn k → StandsIn p (call_in k)) bs → StandsIn p (call_in b)
      → In p (shown_in_batches w (bs ++ b ∷ []))
  no_pair_of_a_question_lost = none_lost_in w fresh

  -- No pair is handed out twice, nor are two with the same document and the same two starts.
  pub no_pair_of_a_question_twice : (bs : List Batch) → EveryTwo (λ p q. SameStarts p q → ⊥) (shown_in_batches w bs)
  no_pair_of_a_question_twice = none_twice_in w fresh

-- One call b, in which the question that is followed has any six words w as its ticket:
module _ (w : TicketWords) (b : Batch) where
  -- If fewer than 32 questions come before it, the question's page is the one at its index among
  -- the pages of the call, even where the whole call is refused.
  pub followed_page_is_at_its_index : length b.before < MOST_QUESTIONS → get_or (answer_with w b).pages (length b.before) no_page ≡ page_in w b
  followed_page_is_at_its_index = page_at_index w b

  -- The question's verdict is LONG if there are more than 32 questions, and otherwise that on its
  -- two tags.
  pub followed_verdict : (page_in w b).verdict ≡ verdict_in b
  followed_verdict = verdict_in_lem w b

  -- If the question is refused, it isn't done, hands out nothing and returns its ticket.
  pub followed_refusal_keeps_its_ticket : (AcceptedIn b → ⊥) → (page_in w b ≡ refused_page (verdict_in b) w) × (shown_in w b ≡ [])
  followed_refusal_keeps_its_ticket refused = (refused_in w b refused, none_in w b refused)

  -- The question hands out pairs of the lists under its own tags alone, and only those asked for.
  pub question_has_pairs_of_its_lists : All (λ p. StandsIn p (call_in b) × (askedb (asked_by (ticket_of w)) p ≡ true)) (shown_in w b)
  question_has_pairs_of_its_lists = own_lists_in w b

  -- If the question is accepted and isn't done, it has filled the room that the questions before it
  -- left.
  pub question_full_unless_done : AcceptedIn b → (page_in w b).done ≡ 0 → (page_in w b).count ≡ room (call_in b).out
  question_full_unless_done = fills_room_in w b
