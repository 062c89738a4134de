-- Function: `refuse_all` (src/ask.rt).
-- Why it holds: Before each turn the pages are the refusals of the questions before `index`, and
-- zeros. The loop ends after the last question, or where the pages are full.
-- What would break it: A page of another question, or without its ticket, would be caught at the
-- next turn. A loop that ends before the last question would be caught at the return.
use mathlib.Core.Path.{◌≡◌, sym, ap, ◌∙◌}
use mathlib.Core.List.{List}
use mathlib.Core.Logic.{inl, inr}
use Prim.Native.Nat.{ℕ, ◌+◌, ◌≤◌, ◌<◌, min}
use lib.Dec.{ltb}
use native.Mathlib.Omega.{arith}
use lib.ListN.{take, drop, set}
use borrow.Author.Tests.{ltb-true, ltb-false}
use Rattle.laws.proofs.Choices.{map_drop}
use Rattle.laws.proofs.Tests.{either}
use Rattle.answers.specs.declared.verdict.Verdict.{Verdict}
use Rattle.ticket_words.specs.declared.page.PageWords.{PageWords}
use Rattle.questions.specs.declared.question.Question.{Question}
use Rattle.questions.specs.Ask.{refused_page, refused_pages, padded}
use Rattle.questions.specs.Question.{MOST_QUESTIONS, question_count, questions_in, question_at}
use Rattle.questions.proofs.Padding.{padded_none, padded_next, padded_all, padded_full}
use Rattle.questions.proofs.QuestionLaws.{questions_from, questions_end}
use Rattle.questions.proofs.ask.refuse_all.Invariants.{whole}
use Rattle.questions.proofs.ask.refuse_all.Goals as goal

module _ (words : List ℕ) (v : Verdict) where
  left : (index : ℕ) → drop index (whole words v) ≡ refused_pages v (drop index (questions_in words))
  unfolding refused_pages
  left index = sym (map_drop (λ q. refused_page v q.ticket) index (questions_in words))

  module _ (pages : List PageWords) (index : ℕ) (e : pages ≡ padded (take index (whole words v))) where
    next : index < MOST_QUESTIONS → index < question_count words → (q : Question) → q ≡ question_at words index
        → (p : PageWords) → p ≡ refused_page v q.ticket → set pages index p ≡ padded (take (index + 1) (whole words v))
    unfolding refused_pages
    next h l q s p r =
        let own = left index ∙ ap (refused_pages v) (questions_from words index l) in
        rw (e, r, s) (padded_next (whole words v) index own h)

    all : question_count words ≤ index → pages ≡ padded (whole words v)
    unfolding refused_pages
    all h = e ∙ padded_all (whole words v) index (left index ∙ ap (refused_pages v) (questions_end words index h))

    full : MOST_QUESTIONS ≤ index → pages ≡ padded (whole words v)
    full h = e ∙ padded_full (whole words v) index h

    stored : (end : ℕ) → end ≡ min (question_count words) MOST_QUESTIONS → end ≤ index → pages ≡ padded (whole words v)
    stored end n h =
        elim (either (ltb index (question_count words))) [
          | inl k ↦ full (omega (arith, n, ltb-true index (question_count words) k))
          | inr k ↦ all (ltb-false index (question_count words) k)
        ]

pub loop-index-init : goal.loop-index-init
loop-index-init c = padded_none _ c.no_page-none.ensures

pub question_at-question-requires : goal.question_at-question-requires
question_at-question-requires c = omega (arith, ltb-true)

pub loop-index-preserved : goal.loop-index-preserved
loop-index-preserved c =
    let l = c.loop-index in
    let a = c.args in
    next a.questions.now a.verdict _ l.index l.invariant (omega arith) (omega (arith, ltb-true)) _ c.question_at-question.ensures _ c.refused_page.ensures

pub returns : goal.returns
returns c =
    let l = c.loop-index in
    let a = c.args in
    stored a.questions.now a.verdict _ l.index l.invariant _ (c.min-index-end.ensures ∙ ap (λ n. min n MOST_QUESTIONS) c.question_count.ensures) c.loop-index-test.false
