-- Why it holds: A refused question hands out nothing, so the questions after it write where they
-- would without it.
-- What would break it: A refused question that took room or stopped the others would be caught
-- here.
use mathlib.Core.Path.{◌≡◌, sym, ap, ◌∙◌}
use mathlib.Core.List.{List, [], ◌∷◌, ◌++◌, append_assoc}
use Prim.Native.Nat.{ℕ, suc, ◌+◌, ◌-◌, ◌≤◌}
use native.Mathlib.Omega.{arith}
use lib.ListN.{length, take, drop, replicate, length-append, replicate-append-replicate}
use lib.Seq.{append_snoc}
use Rattle.answers.specs.Answer.{TAKEN}
use Rattle.answers.specs.Output.{words_in, written}
use Rattle.tickets.specs.PairWords.{pair_words}
use Rattle.ticket_words.specs.declared.page.PageWords.{PageWords}
use Rattle.questions.specs.declared.question.Question.{Question}
use Rattle.questions.specs.Ask.{no_page, padded, ask_of, ask_output}
use Rattle.questions.specs.Demanded.{question_words, verdict_on, count_in, single_page, single_pages, pairs_in_turn}
use Rattle.questions.specs.Question.{MOST_QUESTIONS}
use Rattle.questions.proofs.Answered.{words_pages, words_output}
use Rattle.questions.proofs.Padding.{padded_first, padded_rest}
use Rattle.questions.proofs.Refusals.{page_refused, pairs_refused}
use Rattle.questions.proofs.Singles.{length_singles, singles_append, turn_append}

-- Some pages, one that is left out, and others after it: the pages after the left one move up.
module _ (ps : List PageWords) (p : PageWords) (qs : List PageWords) (few : length (ps ++ p ∷ qs) ≤ MOST_QUESTIONS) (n : ℕ) (e : length ps ≡ n) where
  moves_up : drop (suc n) (padded (ps ++ p ∷ qs)) ++ no_page ∷ [] ≡ drop n (padded (ps ++ qs))
  moves_up =
      let l = length-append ps (p ∷ qs) in
      let m = length-append ps qs in
      let o = length-append ps (p ∷ []) in
      let f = length-append (ps ++ p ∷ []) qs in
      let zeros = MOST_QUESTIONS - length (ps ++ (p ∷ []) ++ qs) in
      let more : zeros + 1 ≡ MOST_QUESTIONS - length (ps ++ qs) = omega arith in
      ap (λ rs. drop (suc n) (padded rs) ++ no_page ∷ []) (sym (append_snoc ps p qs))
      ∙ ap (λ rs. rs ++ no_page ∷ []) (padded_rest (ps ++ p ∷ []) qs (omega arith) (suc n) (omega arith))
      ∙ append_assoc qs (replicate zeros no_page) (no_page ∷ [])
      ∙ ap (λ rs. qs ++ rs) (replicate-append-replicate zeros 1 no_page)
      ∙ ap (λ k. qs ++ replicate k no_page) more
      ∙ sym (padded_rest ps qs (omega arith) n e)

-- A refused question between others, with it and without it.
module _ (book : List ℕ) (before : List Question) (q : Question) (after : List Question) (out : List ℕ)
    (few : length (before ++ q ∷ after) ≤ MOST_QUESTIONS) (refused : (verdict_on book q.ancestors q.descendants).answer ≡ TAKEN → ⊥) where
  abbrev with : List ℕ
  with = words_in question_words (before ++ q ∷ after)

  abbrev without : List ℕ
  without = words_in question_words (before ++ after)

  fewer : length (before ++ after) ≤ MOST_QUESTIONS
  fewer = omega (arith, length-append before (q ∷ after), length-append before after)

  abbrev earlier : List PageWords
  earlier = single_pages book out 0 before

  abbrev passed : ℕ
  passed = 0 + count_in earlier

  abbrev later : List PageWords
  later = single_pages book out passed after

  -- The questions after it begin where it does.
  stays : passed + (single_page book out passed q).count ≡ passed
  stays = let c = ap (λ p. p.count) (page_refused book out passed q refused) in omega arith

  pages_with : single_pages book out 0 (before ++ q ∷ after) ≡ earlier ++ single_page book out passed q ∷ later
  unfolding single_pages
  pages_with =
      singles_append book out 0 before (q ∷ after)
      ∙ ap (λ k. earlier ++ single_page book out passed q ∷ single_pages book out k after) stays

  answer_with_lem : (ask_of book with out).pages ≡ padded (earlier ++ single_page book out passed q ∷ later)
  answer_with_lem = words_pages book (before ++ q ∷ after) out few ∙ ap padded pages_with

  answer_without : (ask_of book without out).pages ≡ padded (earlier ++ later)
  answer_without = words_pages book (before ++ after) out fewer ∙ ap padded (singles_append book out 0 before after)

  few_with : length (earlier ++ single_page book out passed q ∷ later) ≤ MOST_QUESTIONS
  few_with = omega (arith, ap length pages_with, length_singles book out 0 (before ++ q ∷ after))

  few_without : length (earlier ++ later) ≤ MOST_QUESTIONS
  few_without = omega (arith, few_with, length-append earlier later, length-append earlier (single_page book out passed q ∷ later))

  -- The pages before it stay,
  pub before_stay : take (length before) (ask_of book with out).pages ≡ take (length before) (ask_of book without out).pages
  before_stay =
      let n = length before in
      let l = length_singles book out 0 before in
      ap (take n) answer_with_lem
      ∙ padded_first earlier (single_page book out passed q ∷ later) few_with n l
      ∙ sym (ap (take n) answer_without ∙ padded_first earlier later few_without n l)

  -- those after it move up by one,
  pub after_move_up : drop (suc (length before)) (ask_of book with out).pages ++ no_page ∷ [] ≡ drop (length before) (ask_of book without out).pages
  after_move_up =
      ap (λ ps. drop (suc (length before)) ps ++ no_page ∷ []) answer_with_lem
      ∙ moves_up earlier (single_page book out passed q) later few_with (length before) (length_singles book out 0 before)
      ∙ sym (ap (drop (length before)) answer_without)

  pairs_with : pairs_in_turn book out 0 (before ++ q ∷ after) ≡ pairs_in_turn book out 0 (before ++ after)
  unfolding pairs_in_turn
  pairs_with =
      let xs = pairs_in_turn book out 0 before in
      turn_append book out 0 before (q ∷ after)
      ∙ (λ i. xs ++ (pairs_refused book out passed q refused i ++ pairs_in_turn book out (stays i) after))
      ∙ sym (turn_append book out 0 before after)

  -- and the output is the same.
  pub same_output : ask_output book with out ≡ ask_output book without out
  same_output =
      words_output book (before ++ q ∷ after) out few
      ∙ ap (λ ps. written (words_in pair_words ps) out) pairs_with
      ∙ sym (words_output book (before ++ after) out fewer)
