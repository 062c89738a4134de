-- Why it holds: The words decide on the whole call before any question is asked. A call that is
-- taken has the pages of single calls, filled up with pages of zeros.
-- What would break it: A page at another question's index would be caught here. So would a page too
-- few, or a word altered by a call that is refused as a whole.
use mathlib.Core.Path.{◌≡◌, refl, sym, ap, subst, ◌∙◌}
use mathlib.Core.Logic.{◌↔◌, ◌⊎◌, inl, inr}
use mathlib.Core.Bool.{true, false}
use mathlib.Core.List.{List, ◌++◌}
use Prim.Native.Nat.{ℕ, ◌*◌, ◌%◌, ◌≤◌, ◌<◌}
use native.Mathlib.Omega.{arith}
use lib.Dec.{eqb}
use lib.ListN.{length, get_or, take, drop, replicate, length-append, length-drop, length-map}
use lib.Seq.{drop-append_seam}
use borrow.Author.Tests.{eqb-true, eqb-false, eq-eqb, ne_eqb}
use Rattle.answers.specs.Answer.{TAKEN, RAGGED, LONG}
use Rattle.answers.specs.Output.{words_in, written}
use Rattle.answers.specs.Verdict.{ANCESTORS, verdict}
use Rattle.laws.proofs.Choices.{all_of, all_mapped, all_append, take_all_of, map_there}
use Rattle.laws.proofs.Tests.{either}
use Rattle.nodes.specs.Words.{nodes}
use Rattle.contents.specs.Contents.{lists_in}
use Rattle.lists.specs.Refusal.{AtOdds}
use Rattle.tickets.specs.PairWords.{PAIR_WORDS, pair_words}
use Rattle.pairs.proofs.Answered.{words_length}
use Rattle.ticket_words.specs.declared.page.PageWords.{PageWords}
use Rattle.books.specs.Book.{book_verdict}
use Rattle.joins.specs.Join.{thereb}
use Rattle.questions.specs.declared.ask.Pages.{Pages}
use Rattle.questions.specs.declared.question.Question.{Question}
use Rattle.questions.specs.Ask.{list_under, refused_page, refused_pages, no_page, padded, with_pages, ask_of_up_to, ask_of, ask_output_up_to, ask_output}
use Rattle.questions.specs.Demanded.{question_words, verdict_on, count_in, single_page, single_pages, pairs_in_turn}
use Rattle.questions.specs.Question.{QUESTION_WORDS, MOST_QUESTIONS, question, ticket_words, questions_in, question_count, question_at, check_questions}
use Rattle.questions.proofs.Padding.{length_padded, padded_there, padded_beyond, begins_padded, count_none, all_zeros, count_padded}
use Rattle.questions.proofs.QuestionLaws.{length_questions, questions_back, length_question_words, ragged_iff, long_iff, taken_iff}
use Rattle.questions.proofs.Refusals.{question_refused_iff, page_verdict, page_refused}
use Rattle.questions.proofs.Singles.{pages_single, output_in_turn, counted_in_turn, room_in_turn, length_singles, single_at}

-- A whole call.
module _ (book words out : List ℕ) where
  abbrev answered : Pages
  answered = ask_of book words out

  abbrev asked : List Question
  asked = questions_in words

  -- Its answer is that on its words, so it says what they are.
  answer_checked : answered.answer ≡ check_questions words
  unfolding ask_of_up_to
  answer_checked =
      elim (either (eqb (check_questions words) TAKEN)) [ inl h ↦ rw h (sym (eqb-true (check_questions words) TAKEN h)) | inr h ↦ rw h refl ]

  pub ask_ragged_iff : (answered.answer ≡ RAGGED) ↔ (length words % QUESTION_WORDS ≡ 0 → ⊥)
  ask_ragged_iff = rw answer_checked (ragged_iff words)

  pub ask_long_iff : (answered.answer ≡ LONG) ↔ ((length words % QUESTION_WORDS ≡ 0) × (MOST_QUESTIONS < question_count words))
  ask_long_iff = rw answer_checked (long_iff words)

  pub ask_taken_iff : (answered.answer ≡ TAKEN) ↔ ((length words % QUESTION_WORDS ≡ 0) × (question_count words ≤ MOST_QUESTIONS))
  ask_taken_iff = rw answer_checked (taken_iff words)

  -- What a call answers that is taken, and what one that is refused.
  module _ (accepted : answered.answer ≡ TAKEN) where
    checks : eqb (check_questions words) TAKEN ≡ true
    checks = eq-eqb (check_questions words) TAKEN (sym answer_checked ∙ accepted)

    taken_call : answered ≡ with_pages TAKEN (length asked) (single_pages book out 0 asked)
    unfolding ask_of_up_to
    taken_call = rw checks (ap (λ ps. with_pages TAKEN (length asked) ps) (pages_single book out 0 asked))

    pub taken_output : ask_output book words out ≡ written (words_in pair_words (pairs_in_turn book out 0 asked)) out
    unfolding ask_output_up_to
    taken_output = rw checks (output_in_turn book out 0 asked)

    few_asked : length asked ≤ MOST_QUESTIONS
    few_asked = omega (arith, length_questions words, ask_taken_iff.0 accepted)

    few_pages : length (single_pages book out 0 asked) ≤ MOST_QUESTIONS
    few_pages = omega (arith, length_singles book out 0 asked, few_asked)

    pub taken_asked : answered.questions ≡ question_count words
    taken_asked = ap (λ r. r.questions) taken_call ∙ length_questions words

    pub taken_pages : take (question_count words) answered.pages ≡ single_pages book out 0 asked
    taken_pages =
        ap (λ r. take (question_count words) r.pages) taken_call
        ∙ begins_padded (single_pages book out 0 asked) few_pages (question_count words) (length_singles book out 0 asked ∙ length_questions words)

    pub taken_counted : length (pairs_in_turn book out 0 asked) ≡ count_in answered.pages
    taken_counted =
        counted_in_turn book out 0 asked
        ∙ sym (ap (λ r. count_in r.pages) taken_call ∙ count_padded (single_pages book out 0 asked) few_pages)

    -- What holds of a question's page, wherever it writes, holds of the page at its index.
    page_of_lem : (P : PageWords → Type 0) (i : ℕ) → i < question_count words → ((k : ℕ) → P (single_page book out k (question_at words i)))
        → P (get_or answered.pages i no_page)
    unfolding question_at
    page_of_lem P i there f =
        let ps = single_pages book out 0 asked in
        let e : get_or answered.pages i no_page ≡ get_or ps i no_page =
        ap (λ r. get_or r.pages i no_page) taken_call
        ∙ padded_there ps i (omega (arith, few_asked, length_questions words)) (omega (arith, length_singles book out 0 asked, length_questions words)) no_page in
        subst P (sym e) (single_at book out P 0 asked i (question 0 0 (ticket_words 0 0 0 0 0 0)) no_page (omega (arith, length_questions words)) f)

    module _ (i : ℕ) (there : i < question_count words) where
      abbrev asks : Question
      asks = question_at words i

      pub verdict_at_lem : (get_or answered.pages i no_page).verdict ≡ verdict_on book asks.ancestors asks.descendants
      verdict_at_lem = page_of_lem (λ p. p.verdict ≡ verdict_on book asks.ancestors asks.descendants) i there (λ k. page_verdict book out k asks)

      pub refused_at_iff : ((get_or answered.pages i no_page).verdict.answer ≡ TAKEN → ⊥) ↔ (((book_verdict book).answer ≡ TAKEN → ⊥)
          ⊎ ((thereb book (lists_in book) asks.ancestors asks.descendants ≡ false)
          ⊎ AtOdds (nodes (list_under book asks.ancestors)) (nodes (list_under book asks.descendants))))
      refused_at_iff = rw verdict_at_lem (question_refused_iff book asks.ancestors asks.descendants)

      pub refused_at : ((get_or answered.pages i no_page).verdict.answer ≡ TAKEN → ⊥)
          → get_or answered.pages i no_page ≡ refused_page (verdict_on book asks.ancestors asks.descendants) asks.ticket
      refused_at h =
          page_of_lem (λ p. p ≡ refused_page (verdict_on book asks.ancestors asks.descendants) asks.ticket) i there
          (λ k. page_refused book out k asks (λ t. h (ap (λ v. v.answer) verdict_at_lem ∙ t)))

  module _ (refused : answered.answer ≡ TAKEN → ⊥) where
    fails : eqb (check_questions words) TAKEN ≡ false
    fails = ne_eqb (check_questions words) TAKEN (λ t. refused (answer_checked ∙ t))

    abbrev refusals : List PageWords
    refusals = refused_pages (verdict (check_questions words) ANCESTORS 0) asked

    refused_call_lem : answered ≡ with_pages (check_questions words) 0 refusals
    unfolding ask_of_up_to
    refused_call_lem = rw fails refl

    pub refused_output : ask_output book words out ≡ out
    unfolding ask_output_up_to
    refused_output = rw fails refl

    pub refused_asked : answered.questions ≡ 0
    refused_asked = ap (λ r. r.questions) refused_call_lem

    length_refusals : length refusals ≡ question_count words
    unfolding refused_pages
    length_refusals = length-map asked _ ∙ length_questions words

    pub refused_page_at : (i : ℕ) → i < question_count words → i < MOST_QUESTIONS
        → get_or answered.pages i no_page ≡ refused_page (verdict answered.answer ANCESTORS 0) (question_at words i).ticket
    unfolding refused_pages question_at
    refused_page_at i there most =
        ap (λ r. get_or r.pages i no_page) refused_call_lem
        ∙ padded_there refusals i most (omega (arith, length_refusals)) no_page
        ∙ map_there _ asked i (omega (arith, length_questions words)) (question 0 0 (ticket_words 0 0 0 0 0 0)) no_page
        ∙ ap (λ a. refused_page (verdict a ANCESTORS 0) (question_at words i).ticket) (sym answer_checked)

    pub refused_counted : count_in answered.pages ≡ 0
    unfolding refused_pages padded
    refused_counted =
        ap (λ r. count_in r.pages) refused_call_lem
        ∙ count_none (padded refusals) (take_all_of (λ p. p.count ≡ 0) MOST_QUESTIONS (refusals ++ replicate MOST_QUESTIONS no_page)
        (all_append (λ p. p.count ≡ 0) refusals (replicate MOST_QUESTIONS no_page) (all_mapped _ _ asked (all_of (λ q. refl) asked)) (all_zeros MOST_QUESTIONS)))

  -- There are always 32 pages, and those after the last question are zeros.
  pub ask_pages : length answered.pages ≡ MOST_QUESTIONS
  ask_pages =
      elim (either (eqb answered.answer TAKEN)) [
        | inl h ↦ ap (λ r. length r.pages) (taken_call (eqb-true answered.answer TAKEN h)) ∙ length_padded _
        | inr h ↦ ap (λ r. length r.pages) (refused_call_lem (eqb-false answered.answer TAKEN h)) ∙ length_padded _
      ]

  pub ask_beyond : (i : ℕ) → question_count words ≤ i → i < MOST_QUESTIONS → (d : PageWords) → get_or answered.pages i d ≡ no_page
  ask_beyond i beyond most d =
      elim (either (eqb answered.answer TAKEN)) [
        | inl h ↦ let t = eqb-true answered.answer TAKEN h in
            ap (λ r. get_or r.pages i d) (taken_call t)
            ∙ padded_beyond (single_pages book out 0 asked) i most (omega (arith, length_singles book out 0 asked, length_questions words)) d
        | inr h ↦ let r = eqb-false answered.answer TAKEN h in
            ap (λ r. get_or r.pages i d) (refused_call_lem r) ∙ padded_beyond (refusals r) i most (omega (arith, length_refusals r)) d
      ]

  -- No word after the pairs that the pages count is altered, and none is added or taken away.
  pub ask_keeps_beyond : (drop (PAIR_WORDS * count_in answered.pages) (ask_output book words out) ≡ drop (PAIR_WORDS * count_in answered.pages) out)
      × (length (ask_output book words out) ≡ length out)
  unfolding written
  ask_keeps_beyond =
      elim (either (eqb answered.answer TAKEN)) [
        | inl h ↦ let t = eqb-true answered.answer TAKEN h in
            let ws = words_in pair_words (pairs_in_turn book out 0 asked) in
            let n : PAIR_WORDS * count_in answered.pages ≡ length ws =
            ap (λ k. PAIR_WORDS * k) (sym (taken_counted t)) ∙ sym (words_length (pairs_in_turn book out 0 asked)) in
            rw (taken_output t, n) (
              drop-append_seam ws (drop (length ws) out),
              omega (arith, length-append ws (drop (length ws) out), length-drop (length ws) out, room_in_turn book out 0 asked),
            )
        | inr h ↦ let e = refused_output (eqb-false answered.answer TAKEN h) in
            (ap (drop (PAIR_WORDS * count_in answered.pages)) e, ap length e)
      ]

-- A call with the words of some questions, at most 32.
module _ (book : List ℕ) (qs : List Question) (out : List ℕ) (few : length qs ≤ MOST_QUESTIONS) where
  pub words_taken_lem : (ask_of book (words_in question_words qs) out).answer ≡ TAKEN
  words_taken_lem =
      let l = length_question_words qs in
      (ask_taken_iff book (words_in question_words qs) out).1 (omega arith, omega arith)

  pub words_pages : (ask_of book (words_in question_words qs) out).pages ≡ padded (single_pages book out 0 qs)
  words_pages =
      ap (λ r. r.pages) (taken_call book (words_in question_words qs) out words_taken_lem)
      ∙ ap (λ ks. padded (single_pages book out 0 ks)) (questions_back qs)

  pub words_output : ask_output book (words_in question_words qs) out ≡ written (words_in pair_words (pairs_in_turn book out 0 qs)) out
  words_output =
      taken_output book (words_in question_words qs) out words_taken_lem
      ∙ ap (λ ks. written (words_in pair_words (pairs_in_turn book out 0 ks)) out) (questions_back qs)
