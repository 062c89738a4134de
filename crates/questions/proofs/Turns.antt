-- Why it holds: A question writes into the rest of the output, and takes no more words than it has.
-- So what the remaining questions make of the rest is what is left of the whole answer.
-- What would break it: A rest that began elsewhere than where the last page ends would be caught
-- here. So would a refused question that took room.
use mathlib.Core.Path.{◌≡◌, refl, sym, ap, ◌∙◌}
use mathlib.Core.Logic.{inl, inr}
use mathlib.Core.List.{List, [], ◌∷◌, ◌++◌, append_assoc, append-nil}
use Prim.Native.Nat.{ℕ, ◌+◌, ◌-◌, ◌*◌, ◌≤◌, ◌<◌}
use native.Mathlib.Numerals.{add-one}
use native.Mathlib.Omega.{arith}
use lib.ListN.{length, take, drop, set, length-append, length-drop, drop_of_length-le, take-append-drop}
use lib.Seq.{take_all, length-take-le, take-append-add, drop-append-add, drop-drop}
use borrow.Rule.Slice.PartMut.{mid_of, put_mid}
use Rattle.laws.proofs.Tests.{either}
use Rattle.answers.specs.Verdict.{refusedb}
use Rattle.tickets.specs.PairWords.{PAIR_WORDS}
use Rattle.pairs.specs.Calls.{Call}
use Rattle.pairs.proofs.Answered.{count_given, given_fits, output_length}
use Rattle.ticket_words.specs.declared.page.PageWords.{PageWords}
use Rattle.ticket_words.specs.Page.{shown_page}
use Rattle.ticket_words.specs.Words.{ticket_of}
use Rattle.questions.specs.declared.question.Question.{Question}
use Rattle.questions.specs.Ask.{list_under, find_lists, page_to_up_to, page_to, output_to_up_to, output_to, words_taken_up_to, words_taken, pages_to_up_to, pages_to, output_after_all_up_to, output_after_all, padded}
use Rattle.questions.specs.Question.{MOST_QUESTIONS, question_count, questions_in, question_at}
use Rattle.questions.proofs.Padding.{padded_next, padded_all}
use Rattle.questions.proofs.QuestionLaws.{questions_from, questions_end}

module _ (book : List ℕ) (q : Question) (out : List ℕ) where
  -- The single call that a question amounts to.
  abbrev call : Call
  call = record { ancestors = list_under book q.ancestors; descendants = list_under book q.descendants; out = out }

  -- A question takes no more words than the output has,
  pub words_fit : words_taken book q out ≤ length out
  unfolding words_taken_up_to page_to_up_to shown_page
  words_fit =
      elim (either (refusedb (find_lists book q.ancestors q.descendants))) [
        | inl h ↦ rw h (omega arith)
        | inr h ↦ rw h (omega (arith, count_given (ticket_of q.ticket) call, given_fits (ticket_of q.ticket) call))
      ]

  -- and leaves it as long as it was.
  as_long : length (output_to book q out) ≡ length out
  unfolding output_to_up_to
  as_long =
      elim (either (refusedb (find_lists book q.ancestors q.descendants))) [
        | inl h ↦ rw h refl
        | inr h ↦ rw h (output_length (ticket_of q.ticket) call)
      ]

module _ (book words out₀ : List ℕ) where
  abbrev qs : List Question
  qs = questions_in words

  abbrev whole : List PageWords
  whole = pages_to book qs out₀

  -- What holds before the turn of the question at `index`. The rest of the output begins at `from`.
  pub record Turn (out : List ℕ) (pages : List PageWords) (from index : ℕ) : Type 0 where
    pub within : from ≤ length out
    pub long : length out ≡ length out₀
    pub stored : pages ≡ padded (take index whole)
    pub pages_left : pages_to book (drop index qs) (drop from out) ≡ drop index whole
    pub output_left : take from out ++ output_after_all book (drop index qs) (drop from out) ≡ output_after_all book qs out₀

  -- The first question has the whole output.
  pub first_turn : (pages : List PageWords) → pages ≡ padded [] → Turn out₀ pages 0 0
  first_turn pages e = record { within = omega arith; long = refl; stored = e; pages_left = refl; output_left = refl }

  module _ (out : List ℕ) (pages : List PageWords) (from index : ℕ) (t : Turn out pages from index) where
    abbrev rest : List ℕ
    rest = drop from out

    -- The part that is lent is the rest, and takes its place again.
    rest_lent : mid_of from (length out - from) out ≡ rest
    rest_lent = take_all (length out - from) rest (omega (arith, length-drop from out))

    rest_back : (ys : List ℕ) → put_mid from (length out - from) out ys ≡ take from out ++ ys
    rest_back ys =
        let none = drop_of_length-le rest {i = length out - from} (omega (arith, length-drop from out)) in
        ap (λ zs. take from out ++ (ys ++ zs)) none ∙ ap (λ zs. take from out ++ zs) (append-nil ys)

    -- The question at `index` is answered.
    module _ (q : Question) (h : index < question_count words) (few : question_count words ≤ MOST_QUESTIONS) (s : q ≡ question_at words index) where
      abbrev n : ℕ
      n = words_taken book q rest

      abbrev after : List ℕ
      after = output_to book q rest

      next : drop index qs ≡ q ∷ drop (index + 1) qs
      next = questions_from words index h ∙ rw (add-one index, s) refl

      front : length (take from out) ≡ from
      front = length-take-le from out t.within

      passed : take (from + n) (take from out ++ after) ≡ take from out ++ take n after
      passed = ap (λ k. take (k + n) (take from out ++ after)) (sym front) ∙ take-append-add (take from out) after n

      beyond : drop (from + n) (take from out ++ after) ≡ drop n after
      beyond = ap (λ k. drop (k + n) (take from out ++ after)) (sym front) ∙ drop-append-add (take from out) after n

      own_page : page_to book q rest ∷ pages_to book (drop (index + 1) qs) (drop n after) ≡ drop index whole
      unfolding pages_to_up_to
      own_page = ap (λ l. pages_to book l rest) (sym next) ∙ t.pages_left

      own_output : take from out ++ (take n after ++ output_after_all book (drop (index + 1) qs) (drop n after)) ≡ output_after_all book qs out₀
      unfolding output_after_all_up_to
      own_output = ap (λ l. take from out ++ output_after_all book l rest) (sym next) ∙ t.output_left

      size : length (take from out ++ after) ≡ length out
      size = omega (arith, length-append (take from out) after, front, as_long book q rest, length-drop from out)

      fits : from + n ≤ length out
      fits = omega (arith, words_fit book q rest, length-drop from out)

      turned : Turn (take from out ++ after) (set pages index (page_to book q rest)) (from + n) (index + 1)
      turned = record {
        within = omega (arith, fits, size);
        long = size ∙ t.long;
        stored = ap (λ ps. set ps index (page_to book q rest)) t.stored ∙ padded_next whole index (sym own_page) (omega arith);
        pages_left = ap (pages_to book (drop (index + 1) qs)) beyond ∙ ap (drop 1) own_page ∙ drop-drop 1 index whole;
        output_left = (λ i. passed i ++ output_after_all book (drop (index + 1) qs) (beyond i))
            ∙ append_assoc (take from out) (take n after) _ ∙ own_output;
      }

      module _ (p : PageWords) (e : p ≡ page_to book q (mid_of from (length out - from) out)) where
        own : p ≡ page_to book q rest
        own = e ∙ ap (page_to book q) rest_lent

        -- The next question begins within the output,
        pub turn_fits : from + PAIR_WORDS * p.count ≤ length out₀
        unfolding words_taken_up_to
        turn_fits = rw own (omega (arith, fits))

        -- and it is its turn.
        pub next_turn : (ys : List ℕ) → ys ≡ output_to book q (mid_of from (length out - from) out)
            → Turn (put_mid from (length out - from) out ys) (set pages index p) (from + PAIR_WORDS * p.count) (index + 1)
        unfolding words_taken_up_to
        next_turn ys f = rw (rest_back ys, own, f ∙ ap (output_to book q) rest_lent) turned

    -- After the last question all pages are there, and the output is as defined.
    pub last_turn : question_count words ≤ index → record { answer : pages ≡ padded whole; output : out ≡ output_after_all book qs out₀ }
    unfolding pages_to_up_to output_after_all_up_to
    last_turn h =
        let none = questions_end words index h in
        record {
          answer = t.stored ∙ padded_all whole index (sym t.pages_left ∙ ap (λ l. pages_to book l rest) none);
          output = sym (take-append-drop from out) ∙ ap (λ l. take from out ++ output_after_all book l rest) (sym none) ∙ t.output_left;
        }
