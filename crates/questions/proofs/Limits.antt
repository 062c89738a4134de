-- Why it holds: A question looks at the book's own answer first, and only that answer depends on
-- the limit of lists. If the book has more lists, each question is refused in turn and takes no
-- room.
-- What would break it: A question that looked for its tags first, or a page that depended on the
-- limit, would be caught here.
use mathlib.Core.Path.{◌≡◌, refl, ap}
use mathlib.Core.List.{List, [], ◌∷◌}
use Prim.Native.Nat.{ℕ, ◌*◌, ◌≤◌, ◌<◌}
use lib.Dec.{eqb}
use lib.ListN.{length}
use borrow.Author.Tests.{eq-eqb}
use Rattle.answers.specs.Answer.{TAKEN, CONTENTS}
use Rattle.answers.specs.Verdict.{ANCESTORS, verdict, refusedb}
use Rattle.laws.proofs.Tests.{chosen}
use Rattle.contents.specs.Contents.{lists_in}
use Rattle.tickets.specs.PairWords.{PAIR_WORDS}
use Rattle.books.proofs.Limits.{many_verdict, verdict_alike}
use Rattle.questions.specs.declared.question.Question.{Question}
use Rattle.questions.specs.Question.{questions_in, check_questions}
use Rattle.questions.specs.Ask.{refused_page, find_lists_up_to, page_to_up_to, output_to_up_to, words_taken_up_to, pages_to_up_to, output_after_all_up_to, refused_pages, with_pages, ask_of_up_to, ask_output_up_to}

-- Questions to a book with more lists than the limit:
module _ (most : ℕ) (book : List ℕ) (h : most < lists_in book) where
  many_finds : (ancestors descendants : ℕ) → find_lists_up_to most book ancestors descendants ≡ verdict CONTENTS ANCESTORS 0
  unfolding find_lists_up_to refusedb
  many_finds ancestors descendants = rw (many_verdict most book h)

  module _ (q : Question) (out : List ℕ) where
    many_page : page_to_up_to most book q out ≡ refused_page (verdict CONTENTS ANCESTORS 0) q.ticket
    unfolding page_to_up_to refusedb
    many_page = rw (many_finds q.ancestors q.descendants)

    many_left : output_to_up_to most book q out ≡ out
    unfolding output_to_up_to refusedb
    many_left = rw (many_finds q.ancestors q.descendants)

    many_words : words_taken_up_to most book q out ≡ 0
    unfolding words_taken_up_to
    many_words = ap (λ p. PAIR_WORDS * p.count) many_page

  many_pages : (qs : List Question) (out : List ℕ) → pages_to_up_to most book qs out ≡ refused_pages (verdict CONTENTS ANCESTORS 0) qs
  unfolding pages_to_up_to refused_pages
  many_pages [] out = refl
  many_pages (q ∷ qs) out = rw (many_page q out, many_words q out, many_left q out, many_pages qs out) refl

  many_after : (qs : List Question) (out : List ℕ) → output_after_all_up_to most book qs out ≡ out
  unfolding output_after_all_up_to
  many_after [] out = refl
  many_after (q ∷ qs) out = rw (many_words q out, many_left q out, many_after qs out) refl

  -- The output is as it was, whatever the questions are.
  pub many_unasked : (words out : List ℕ) → ask_output_up_to most book words out ≡ out
  unfolding ask_output_up_to
  many_unasked words out =
      chosen (λ after. after ≡ out) (eqb (check_questions words) TAKEN) (many_after (questions_in words) out) refl

  -- Each question is refused with CONTENTS.
  pub many_asked : (words out : List ℕ) → check_questions words ≡ TAKEN
      → ask_of_up_to most book words out ≡ with_pages TAKEN (length (questions_in words)) (refused_pages (verdict CONTENTS ANCESTORS 0) (questions_in words))
  unfolding ask_of_up_to
  many_asked words out t = rw (eq-eqb (check_questions words) TAKEN t, many_pages (questions_in words) out)

-- Questions to a book that is within two limits:
module _ (fewer more : ℕ) (book : List ℕ) (h : lists_in book ≤ fewer) (k : lists_in book ≤ more) where
  finds_alike : (ancestors descendants : ℕ) → find_lists_up_to fewer book ancestors descendants ≡ find_lists_up_to more book ancestors descendants
  unfolding find_lists_up_to
  finds_alike ancestors descendants = rw (verdict_alike fewer more book h k)

  module _ (q : Question) (out : List ℕ) where
    page_alike : page_to_up_to fewer book q out ≡ page_to_up_to more book q out
    unfolding page_to_up_to
    page_alike = rw (finds_alike q.ancestors q.descendants)

    output_alike : output_to_up_to fewer book q out ≡ output_to_up_to more book q out
    unfolding output_to_up_to
    output_alike = rw (finds_alike q.ancestors q.descendants)

    words_alike : words_taken_up_to fewer book q out ≡ words_taken_up_to more book q out
    unfolding words_taken_up_to
    words_alike = ap (λ p. PAIR_WORDS * p.count) page_alike

  pages_alike : (qs : List Question) (out : List ℕ) → pages_to_up_to fewer book qs out ≡ pages_to_up_to more book qs out
  unfolding pages_to_up_to
  pages_alike [] out = refl
  pages_alike (q ∷ qs) out = rw (page_alike q out, words_alike q out, output_alike q out, pages_alike qs _) refl

  after_alike : (qs : List Question) (out : List ℕ) → output_after_all_up_to fewer book qs out ≡ output_after_all_up_to more book qs out
  unfolding output_after_all_up_to
  after_alike [] out = refl
  after_alike (q ∷ qs) out = rw (words_alike q out, output_alike q out, after_alike qs _) refl

  pub asked_alike : (words out : List ℕ) → (ask_of_up_to fewer book words out ≡ ask_of_up_to more book words out)
      × (ask_output_up_to fewer book words out ≡ ask_output_up_to more book words out)
  unfolding ask_of_up_to ask_output_up_to
  asked_alike words out = rw (pages_alike (questions_in words) out, after_alike (questions_in words) out) (refl, refl)
