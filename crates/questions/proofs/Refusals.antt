-- Why it holds: The verdict on a question asks the book, then the tags, then the two lists. The
-- lists of an accepted book have no fault of their own, so of their answers only JOINT is left.
-- What would break it: A refusal with another answer would be caught here. So would one that a
-- question draws for no reason that the scope names.
use mathlib.Core.Path.{◌≡◌, refl, sym, ap, ◌∙◌}
use mathlib.Core.Logic.{◌↔◌, ◌⊎◌, inl, inr}
use mathlib.Core.Bool.{true, false}
use mathlib.Core.List.{List, []}
use Prim.Native.Nat.{ℕ}
use native.Mathlib.Omega.{arith}
use Rattle.answers.specs.Answer.{TAKEN, JOINT, ABSENT}
use Rattle.answers.specs.Verdict.{ANCESTORS, verdict, taken, refusedb}
use Rattle.answers.proofs.VerdictLaws.{refuses, accepts, not_taken, is_taken}
use Rattle.laws.proofs.Tests.{either, never, and_read}
use Rattle.nodes.specs.Words.{nodes}
use Rattle.contents.specs.Contents.{lists_in}
use Rattle.lists.specs.Check.{check_words}
use Rattle.lists.specs.Refusal.{AtOdds}
use Rattle.lists.specs.Two.{jointb, check_two}
use Rattle.lists.proofs.Refused.{list_refused_iff, refused_iff}
use Rattle.pairs.specs.Page.{handed_out, says_done, page_of}
use Rattle.ticket_words.specs.Page.{shown_page}
use Rattle.ticket_words.specs.Words.{ticket_back}
use Rattle.books.specs.Book.{book_verdict}
use Rattle.books.specs.Find.{has_tag}
use Rattle.books.proofs.Refused.{list_taken}
use Rattle.joins.specs.Join.{thereb}
use Rattle.joins.proofs.Joined.{under_tag}
use Rattle.questions.specs.declared.question.Question.{Question}
use Rattle.questions.specs.Ask.{list_under, refused_page, find_lists_up_to, find_lists}
use Rattle.questions.specs.Demanded.{verdict_on, single_page, single_pairs}

-- A question with two tags, by what comes first.
module _ (book : List ℕ) (ancestors descendants : ℕ) where
  of_book : ((book_verdict book).answer ≡ TAKEN → ⊥) → verdict_on book ancestors descendants ≡ book_verdict book
  unfolding verdict_on find_lists_up_to
  of_book h = let r = refuses (book_verdict book) h in rw (r, r) refl

  of_tags : (book_verdict book).answer ≡ TAKEN → thereb book (lists_in book) ancestors descendants ≡ false
      → verdict_on book ancestors descendants ≡ verdict ABSENT ANCESTORS 0
  unfolding verdict_on find_lists_up_to
  of_tags t n = rw (accepts (book_verdict book) t, n, refuses (verdict ABSENT ANCESTORS 0) (λ e. omega arith)) refl

  module _ (t : (book_verdict book).answer ≡ TAKEN) (both : thereb book (lists_in book) ancestors descendants ≡ true) where
    of_lists : verdict_on book ancestors descendants ≡ check_two (list_under book ancestors) (list_under book descendants)
    unfolding verdict_on find_lists_up_to
    of_lists = rw (accepts (book_verdict book) t, both, accepts taken refl) refl

    -- A list that lies in an accepted book is accepted.
    lists_taken : ((check_words (list_under book ancestors)).answer ≡ TAKEN) × ((check_words (list_under book descendants)).answer ≡ TAKEN)
    unfolding thereb
    lists_taken = let h = and_read (has_tag book (lists_in book) ancestors) both in (one ancestors h.0, one descendants h.1)
      where
        one : (tag : ℕ) → has_tag book (lists_in book) tag ≡ true → (check_words (list_under book tag)).answer ≡ TAKEN
        one tag h = let u = under_tag book t tag h in rw u.1 (list_taken book t _ u.0)

    -- Of the lists' answers only JOINT is left.
    pub only_joint : (verdict_on book ancestors descendants ≡ taken) ⊎ (verdict_on book ancestors descendants ≡ verdict JOINT ANCESTORS 0)
    unfolding check_two
    only_joint =
        let l = lists_taken in
        rw (of_lists, accepts (check_words (list_under book ancestors)) l.0, accepts (check_words (list_under book descendants)) l.1)
        (elim (either (jointb (nodes (list_under book ancestors)) (nodes (list_under book descendants)))) [ inl j ↦ rw j (inr refl) | inr j ↦ rw j (inl refl) ])

  -- A question is accepted only if the book is, both tags are there, and the two lists are accepted
  -- together.
  pub accepted_question : (verdict_on book ancestors descendants).answer ≡ TAKEN
      → ((book_verdict book).answer ≡ TAKEN) × (thereb book (lists_in book) ancestors descendants ≡ true)
      × ((check_two (list_under book ancestors) (list_under book descendants)).answer ≡ TAKEN)
  accepted_question h =
      elim (either (refusedb (book_verdict book))) [
        | inl r ↦ let n = not_taken (book_verdict book) r in absurd (n (sym (ap (λ v. v.answer) (of_book n)) ∙ h))
        | inr r ↦ let t = is_taken (book_verdict book) r in
            elim (either (thereb book (lists_in book) ancestors descendants)) [
              | inl b ↦ (t, b, sym (ap (λ v. v.answer) (of_lists t b)) ∙ h)
              | inr b ↦ let e : ABSENT ≡ TAKEN = sym (ap (λ v. v.answer) (of_tags t b)) ∙ h in absurd (omega arith)
            ]
      ]

  -- It then finds its lists.
  pub lists_found : (verdict_on book ancestors descendants).answer ≡ TAKEN → refusedb (find_lists book ancestors descendants) ≡ false
  unfolding find_lists_up_to
  lists_found h = let a = accepted_question h in rw (accepts (book_verdict book) a.0, a.1) (accepts taken refl)

  -- It is refused exactly when the book is, a tag isn't there, or two nodes, one of each list, are
  -- at odds.
  pub question_refused_iff : ((verdict_on book ancestors descendants).answer ≡ TAKEN → ⊥) ↔ (((book_verdict book).answer ≡ TAKEN → ⊥)
      ⊎ ((thereb book (lists_in book) ancestors descendants ≡ false)
      ⊎ AtOdds (nodes (list_under book ancestors)) (nodes (list_under book descendants))))
  question_refused_iff = (
    λ h. elim (either (refusedb (book_verdict book))) [
      | inl r ↦ inl (not_taken (book_verdict book) r)
      | inr r ↦ let t = is_taken (book_verdict book) r in
          elim (either (thereb book (lists_in book) ancestors descendants)) [
            | inr b ↦ inr (inl b)
            | inl b ↦ let l = lists_taken t b in
                let found = (refused_iff (list_under book ancestors) (list_under book descendants)).0 (λ k. h (ap (λ v. v.answer) (of_lists t b) ∙ k)) in
                elim found [
                  | inl f ↦ absurd ((list_refused_iff (list_under book ancestors)).1 f l.0)
                  | inr g ↦ elim g [ inl f ↦ absurd ((list_refused_iff (list_under book descendants)).1 f l.1) | inr o ↦ inr (inr o) ]
                ]
          ]
    ],
    λ f h. let a = accepted_question h in
        elim f [
          | inl r ↦ r a.0
          | inr g ↦ elim g [
            | inl n ↦ never a.1 n
            | inr o ↦ (refused_iff (list_under book ancestors) (list_under book descendants)).1 (inr (inr o)) a.2
          ]
        ],
  )

-- One question, wherever in the output it writes.
module _ (book out : List ℕ) (at : ℕ) (q : Question) where
  -- Its page carries its verdict.
  pub page_verdict : (single_page book out at q).verdict ≡ verdict_on book q.ancestors q.descendants
  unfolding single_page verdict_on shown_page page_of
  page_verdict = elim (either (refusedb (find_lists book q.ancestors q.descendants))) [ inl f ↦ rw f refl | inr f ↦ rw f refl ]

  -- Where it is refused:
  module _ (refused : (verdict_on book q.ancestors q.descendants).answer ≡ TAKEN → ⊥) where
    -- If its lists are found, the single call on them is refused.
    refused_by_lists : refusedb (find_lists book q.ancestors q.descendants) ≡ false
        → refusedb (check_two (list_under book q.ancestors) (list_under book q.descendants)) ≡ true
    unfolding verdict_on
    refused_by_lists f = refuses (check_two (list_under book q.ancestors) (list_under book q.descendants)) (λ t. refused (rw f t))

    -- So its page has no more than the verdict and its ticket,
    pub page_refused : single_page book out at q ≡ refused_page (verdict_on book q.ancestors q.descendants) q.ticket
    unfolding single_page verdict_on shown_page page_of handed_out says_done ticket_back
    page_refused = elim (either (refusedb (find_lists book q.ancestors q.descendants))) [ inl f ↦ rw f refl | inr f ↦ rw (f, refused_by_lists f) refl ]

    -- and it hands out nothing.
    pub pairs_refused : single_pairs book out at q ≡ []
    unfolding single_pairs handed_out
    pairs_refused = elim (either (refusedb (find_lists book q.ancestors q.descendants))) [ inl f ↦ rw f refl | inr f ↦ rw (f, refused_by_lists f) refl ]
