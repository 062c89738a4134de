-- What only the demands on several questions cite: the words and the verdict of one question, and
-- single calls made one after the other.
use Rattle.std.specs.Prelude.{ℕ, ◌+◌, ◌*◌, cond, List, [], ◌∷◌, ◌++◌, map, drop}
use Rattle.answers.specs.declared.verdict.Verdict.{Verdict}
use Rattle.answers.specs.Verdict.{refusedb}
use Rattle.lists.specs.Two.{check_two}
use Rattle.paging.specs.Calls.{total}
use Rattle.tickets.specs.Listing.{Pair}
use Rattle.tickets.specs.PairWords.{PAIR_WORDS}
use Rattle.pairs.specs.Page.{handed_out, page_of}
use Rattle.ticket_words.specs.declared.page.PageWords.{PageWords}
use Rattle.ticket_words.specs.Page.{shown_page}
use Rattle.ticket_words.specs.Words.{ticket_of}
use Rattle.questions.specs.declared.question.Question.{Question}
use Rattle.questions.specs.Ask.{list_under, refused_page, find_lists}

-- The eight words of a question.
unfoldable pub question_words : Question → List ℕ
question_words q =
    let t = q.ticket in
    q.ancestors ∷ q.descendants ∷ t.relation ∷ t.order ∷ t.placed ∷ t.document ∷ t.first ∷ t.second ∷ []

-- The verdict on a question with two tags, whatever its ticket and its output: the book's own
-- answer, ABSENT, then the answer on the two lists, which may be JOINT.
unfoldable pub verdict_on : List ℕ → ℕ → ℕ → Verdict
verdict_on book ancestors descendants =
    let found = find_lists book ancestors descendants in
    cond (refusedb found) found (check_two (list_under book ancestors) (list_under book descendants))

-- How many pairs several pages count.
unfoldable pub count_in : List PageWords → ℕ
count_in ps = total (map (λ p. p.count) ps)

-- Single calls on the lists of a book, one for each question and in their order. `at` is how many
-- pairs those before have written into the output, so a call has what is left of it.
module _ (book out : List ℕ) where
  -- The page of one such call, by the page call's own definition, which may answer JOINT. Only if
  -- the lists aren't found is no call made, and the page is that refusal.
  unfoldable pub single_page : ℕ → Question → PageWords
  single_page at q =
      let found = find_lists book q.ancestors q.descendants in
      let ancestors = list_under book q.ancestors in
      let descendants = list_under book q.descendants in
      cond (refusedb found) (refused_page found q.ticket)
      (shown_page q.ticket (page_of ancestors descendants (ticket_of q.ticket) (drop (PAIR_WORDS * at) out)))

  -- The pairs that it hands out.
  unfoldable pub single_pairs : ℕ → Question → List Pair
  single_pairs at q =
      cond (refusedb (find_lists book q.ancestors q.descendants)) []
      (handed_out (list_under book q.ancestors) (list_under book q.descendants) (ticket_of q.ticket) (drop (PAIR_WORDS * at) out))

  -- The pages of all of them, and the pairs that they hand out, one after the other.
  unfoldable pub single_pages : ℕ → List Question → List PageWords
  single_pages at [] = []
  single_pages at (q ∷ qs) = single_page at q ∷ single_pages (at + (single_page at q).count) qs

  unfoldable pub pairs_in_turn : ℕ → List Question → List Pair
  pairs_in_turn at [] = []
  pairs_in_turn at (q ∷ qs) = single_pairs at q ++ pairs_in_turn (at + (single_page at q).count) qs
