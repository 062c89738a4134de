-- Why it holds: Eight more words are one more question, so question number i begins at word 8 * i.
-- The words refuse the call if some are left over, or if they make more than 32 questions.
-- What would break it: A question read one word off, or cut at another width, would be caught here.
use mathlib.Core.Path.{◌≡◌, refl, ap, sym, ◌∙◌}
use mathlib.Core.Logic.{◌↔◌, inl, inr}
use mathlib.Core.List.{List, [], ◌∷◌, flat_map}
use Prim.Native.Nat.{ℕ, zero, suc, ◌+◌, ◌*◌, ◌%◌, ◌≤◌, ◌<◌}
use native.Mathlib.Omega.{arith}
use native.Mathlib.Nat.{not-suc-le-zero}
use lib.ListN.{length, get_or, drop, drop_of_length-le}
use lib.Seq.{drop-cons}
use lib.Dec.{leb, eqb}
use borrow.Author.Tests.{eqb-true, eqb-false, leb-true, leb-false, eq-eqb, ne_eqb, le-leb, lt-leb}
use Rattle.laws.proofs.Tests.{either}
use Rattle.answers.specs.Answer.{TAKEN, RAGGED, LONG}
use Rattle.answers.specs.Output.{words_in}
use Rattle.answers.proofs.OutputLaws.{length_items}
use Rattle.questions.specs.declared.question.Question.{Question}
use Rattle.questions.specs.Demanded.{question_words}
use Rattle.questions.specs.Question.{QUESTION_WORDS, MOST_QUESTIONS, ticket_words, question, questions_in, question_count, question_at, check_questions}

pub length_questions : (ws : List ℕ) → length (questions_in ws) ≡ question_count ws
unfolding questions_in
length_questions [] = refl
length_questions (a ∷ []) = refl
length_questions (a ∷ d ∷ []) = refl
length_questions (a ∷ d ∷ r ∷ []) = refl
length_questions (a ∷ d ∷ r ∷ o ∷ []) = refl
length_questions (a ∷ d ∷ r ∷ o ∷ p ∷ []) = refl
length_questions (a ∷ d ∷ r ∷ o ∷ p ∷ k ∷ []) = refl
length_questions (a ∷ d ∷ r ∷ o ∷ p ∷ k ∷ f ∷ []) = refl
length_questions (a ∷ d ∷ r ∷ o ∷ p ∷ k ∷ f ∷ s ∷ ws) = let h = length_questions ws in omega arith

-- The questions from an index on begin with the one there, and after the last there is none.
pub questions_from : (ws : List ℕ) (i : ℕ) → i < question_count ws → drop i (questions_in ws) ≡ question_at ws i ∷ drop (suc i) (questions_in ws)
unfolding question_at
questions_from ws i h = drop-cons (questions_in ws) i (question 0 0 (ticket_words 0 0 0 0 0 0)) (omega (arith, length_questions ws))

pub questions_end : (ws : List ℕ) (i : ℕ) → question_count ws ≤ i → drop i (questions_in ws) ≡ []
questions_end ws i h = drop_of_length-le (questions_in ws) {i = i} (omega (arith, length_questions ws))

-- Questions written as words are read as the same questions.
pub questions_back : (qs : List Question) → questions_in (words_in question_words qs) ≡ qs
unfolding questions_in words_in flat_map question_words
questions_back [] = refl
questions_back (q ∷ qs) = ap (λ ps. q ∷ ps) (questions_back qs)

pub length_question_words : (qs : List Question) → length (words_in question_words qs) ≡ QUESTION_WORDS * length qs
unfolding question_words
length_question_words qs = length_items question_words QUESTION_WORDS (λ q. refl) qs

-- The question that eight words at an index make.
abbrev words_at : List ℕ → ℕ → Question
words_at ws at =
    question (get_or ws at 0) (get_or ws (at + 1) 0)
    (ticket_words (get_or ws (at + 2) 0) (get_or ws (at + 3) 0) (get_or ws (at + 4) 0) (get_or ws (at + 5) 0) (get_or ws (at + 6) 0) (get_or ws (at + 7) 0))

beyond : (a d r o p k f s : ℕ) (ws : List ℕ) {i m : ℕ} → m ≡ suc (suc (suc (suc (suc (suc (suc (suc i)))))))
    → get_or (a ∷ d ∷ r ∷ o ∷ p ∷ k ∷ f ∷ s ∷ ws) m 0 ≡ get_or ws i 0
beyond a d r o p k f s ws q = rw q

-- A question's words are those at eight times its index.
pub question_at_words : (ws : List ℕ) (i : ℕ) → i < question_count ws → question_at ws i ≡ words_at ws (QUESTION_WORDS * i)
unfolding questions_in question_at
question_at_words [] i h = absurd (not-suc-le-zero h)
question_at_words (a ∷ []) i h = absurd (not-suc-le-zero h)
question_at_words (a ∷ d ∷ []) i h = absurd (not-suc-le-zero h)
question_at_words (a ∷ d ∷ r ∷ []) i h = absurd (not-suc-le-zero h)
question_at_words (a ∷ d ∷ r ∷ o ∷ []) i h = absurd (not-suc-le-zero h)
question_at_words (a ∷ d ∷ r ∷ o ∷ p ∷ []) i h = absurd (not-suc-le-zero h)
question_at_words (a ∷ d ∷ r ∷ o ∷ p ∷ k ∷ []) i h = absurd (not-suc-le-zero h)
question_at_words (a ∷ d ∷ r ∷ o ∷ p ∷ k ∷ f ∷ []) i h = absurd (not-suc-le-zero h)
question_at_words (a ∷ d ∷ r ∷ o ∷ p ∷ k ∷ f ∷ s ∷ ws) zero h = refl
question_at_words (a ∷ d ∷ r ∷ o ∷ p ∷ k ∷ f ∷ s ∷ ws) (suc i) h =
    question_at_words ws i (omega arith)
    ∙ λ z. question
    (sym (beyond a d r o p k f s ws {i = 8 * i} {m = 8 * suc i} (omega arith)) z)
    (sym (beyond a d r o p k f s ws {i = 8 * i + 1} {m = 8 * suc i + 1} (omega arith)) z)
    (ticket_words
    (sym (beyond a d r o p k f s ws {i = 8 * i + 2} {m = 8 * suc i + 2} (omega arith)) z)
    (sym (beyond a d r o p k f s ws {i = 8 * i + 3} {m = 8 * suc i + 3} (omega arith)) z)
    (sym (beyond a d r o p k f s ws {i = 8 * i + 4} {m = 8 * suc i + 4} (omega arith)) z)
    (sym (beyond a d r o p k f s ws {i = 8 * i + 5} {m = 8 * suc i + 5} (omega arith)) z)
    (sym (beyond a d r o p k f s ws {i = 8 * i + 6} {m = 8 * suc i + 6} (omega arith)) z)
    (sym (beyond a d r o p k f s ws {i = 8 * i + 7} {m = 8 * suc i + 7} (omega arith)) z))

-- The answer of the whole call, by its words.
module _ (words : List ℕ) where
  pub checked_ragged : (length words % QUESTION_WORDS ≡ 0 → ⊥) → check_questions words ≡ RAGGED
  unfolding check_questions
  checked_ragged h = rw (ne_eqb (length words % QUESTION_WORDS) 0 h) refl

  module _ (whole : length words % QUESTION_WORDS ≡ 0) where
    pub checked_long : MOST_QUESTIONS < question_count words → check_questions words ≡ LONG
    unfolding check_questions
    checked_long h = rw (eq-eqb (length words % QUESTION_WORDS) 0 whole, lt-leb (question_count words) MOST_QUESTIONS h) refl

    pub checked_taken : question_count words ≤ MOST_QUESTIONS → check_questions words ≡ TAKEN
    unfolding check_questions
    checked_taken h = rw (eq-eqb (length words % QUESTION_WORDS) 0 whole, le-leb (question_count words) MOST_QUESTIONS h) refl

  -- Words fall into three kinds, one for each answer.
  by_words : {P : Type 0} → ((length words % QUESTION_WORDS ≡ 0 → ⊥) → P) → (length words % QUESTION_WORDS ≡ 0 → MOST_QUESTIONS < question_count words → P)
      → (length words % QUESTION_WORDS ≡ 0 → question_count words ≤ MOST_QUESTIONS → P) → P
  by_words f g h =
      elim (either (eqb (length words % QUESTION_WORDS) 0)) [
        | inr e ↦ f (eqb-false (length words % QUESTION_WORDS) 0 e)
        | inl e ↦ let whole = eqb-true (length words % QUESTION_WORDS) 0 e in
            elim (either (leb (question_count words) MOST_QUESTIONS)) [
              | inl l ↦ h whole (leb-true (question_count words) MOST_QUESTIONS l)
              | inr l ↦ g whole (leb-false (question_count words) MOST_QUESTIONS l)
            ]
      ]

  -- So each answer is given exactly when the words are of its kind.
  pub ragged_iff : (check_questions words ≡ RAGGED) ↔ (length words % QUESTION_WORDS ≡ 0 → ⊥)
  ragged_iff = (
    λ e. by_words (λ r. r) (λ w l. let c = checked_long w l in absurd (omega arith)) (λ w l. let c = checked_taken w l in absurd (omega arith)),
    checked_ragged,
  )

  pub long_iff : (check_questions words ≡ LONG) ↔ ((length words % QUESTION_WORDS ≡ 0) × (MOST_QUESTIONS < question_count words))
  long_iff = (
    λ e. by_words (λ r. let c = checked_ragged r in absurd (omega arith)) (λ w l. (w, l)) (λ w l. let c = checked_taken w l in absurd (omega arith)),
    λ h. checked_long h.0 h.1,
  )

  pub taken_iff : (check_questions words ≡ TAKEN) ↔ ((length words % QUESTION_WORDS ≡ 0) × (question_count words ≤ MOST_QUESTIONS))
  taken_iff = (
    λ e. by_words (λ r. let c = checked_ragged r in absurd (omega arith)) (λ w l. let c = checked_long w l in absurd (omega arith)) (λ w l. (w, l)),
    λ h. checked_taken h.0 h.1,
  )

  -- Words that are taken make at most 32 questions.
  pub few_questions : check_questions words ≡ TAKEN → question_count words ≤ MOST_QUESTIONS
  few_questions t = (taken_iff.0 t).1
