-- Why it holds: In a checked book two lists are copied whole, unless one of their tags isn't there.
-- So a question is answered by a single call on its own lists, or refused as they aren't found.
-- What would break it: A question answered from another list, or a refused one that takes room,
-- would be caught here.
use mathlib.Core.Path.{◌≡◌, refl, sym, ap, ◌∙◌}
use mathlib.Core.Bool.{Bool, true, false}
use mathlib.Core.Logic.{inl, inr}
use mathlib.Core.List.{List, [], ◌∷◌}
use Prim.Native.Nat.{ℕ, ◌*◌, ◌≤◌}
use native.Mathlib.Omega.{arith}
use lib.ListN.{length, take}
use borrow.Author.Tests.{ne_eqb}
use Rattle.laws.proofs.Tests.{either}
use Rattle.std.specs.Prelude.{Result, Ok, Err}
use Rattle.answers.specs.Answer.{TAKEN}
use Rattle.answers.specs.declared.refusal.Fault.{Fault}
use Rattle.answers.specs.declared.refusal.Refusal.{Refusal}
use Rattle.answers.specs.declared.refusal.Refusal.TheVariants.{Absent}
use Rattle.answers.specs.Refusal.{number_of, at_no_node, answer_in, verdict_of}
use Rattle.answers.proofs.RefusalLaws.{never_taken}
use Rattle.answers.specs.declared.verdict.Verdict.{Verdict}
use Rattle.answers.specs.Verdict.{ANCESTORS, verdict, taken}
use Rattle.answers.proofs.VerdictLaws.{refuses, accepts}
use Rattle.nodes.specs.Words.{NODE_WORDS, MOST_NODES}
use Rattle.contents.specs.Contents.{lists_in}
use Rattle.pairs.specs.Page.{page_of, output_after}
use Rattle.ticket_words.specs.declared.page.PageWords.{PageWords}
use Rattle.ticket_words.specs.Page.{shown_page}
use Rattle.ticket_words.specs.Words.{ticket_of}
use Rattle.books.specs.Book.{book_verdict, check_book, opened_in}
use Rattle.books.proofs.BookLaws.{opened_ok, opened_err}
use Rattle.joins.specs.declared.copy.Lengths.{Lengths}
use Rattle.joins.specs.Join.{lengths, refused, thereb, lengths_of, first_after, second_after}
use Rattle.joins.proofs.Joined.{lists_copied, copies_fit, copies_taken, none_copied}
use Rattle.questions.specs.declared.ask.Pages.{Pages}
use Rattle.questions.specs.declared.question.Question.{Question}
use Rattle.questions.specs.Question.{MOST_QUESTIONS, question_count, questions_in, check_questions}
use Rattle.questions.specs.Ask.{list_under, refused_page, find_lists_up_to, find_lists, page_to_up_to, page_to, output_to_up_to, output_to, words_taken_up_to, pages_to_up_to, pages_to, output_after_all_up_to, output_after_all, refused_pages, padded, ask_of_up_to, ask_of, ask_output_up_to, ask_output}
use Rattle.questions.proofs.QuestionLaws.{length_questions, few_questions}

-- A question whose lists aren't found is refused, and leaves the output as it was.
module _ (book : List ℕ) (q : Question) (v : Verdict) (e : find_lists book q.ancestors q.descendants ≡ v) (bad : v.answer ≡ TAKEN → ⊥)
    (out : List ℕ) where
  unfound_page : page_to book q out ≡ refused_page v q.ticket
  unfolding page_to_up_to
  unfound_page = rw (e, refuses v bad) refl

  unfound_output : output_to book q out ≡ out
  unfolding output_to_up_to
  unfound_output = rw (e, refuses v bad) refl

-- If the book itself is refused, so is each question, with the book's verdict.
module _ (book : List ℕ) (bad : (book_verdict book).answer ≡ TAKEN → ⊥) where
  finds_none : (q : Question) → find_lists book q.ancestors q.descendants ≡ book_verdict book
  unfolding find_lists_up_to
  finds_none q = rw (refuses (book_verdict book) bad) refl

  all_refused : (qs : List Question) (out : List ℕ)
      → (pages_to book qs out ≡ refused_pages (book_verdict book) qs) × (output_after_all book qs out ≡ out)
  unfolding pages_to_up_to output_after_all_up_to refused_pages words_taken_up_to
  all_refused [] out = (refl, refl)
  all_refused (q ∷ qs) out =
      rw (unfound_page book q (book_verdict book) (finds_none q) bad out, unfound_output book q (book_verdict book) (finds_none q) bad out)
      (ap (λ ps. refused_page (book_verdict book) q.ticket ∷ ps) (all_refused qs out).0, (all_refused qs out).1)

-- A question to a checked book, when copying its two lists was answered by `r`.
module _ (book : List ℕ) (lists : ℕ) (q : Question) (first second : List ℕ)
    (ok : ((book_verdict book).answer ≡ TAKEN) × (lists ≡ lists_in book) × (NODE_WORDS * MOST_NODES ≤ length first) × (NODE_WORDS * MOST_NODES ≤ length second))
    (r : Result Lengths Refusal) (e : r ≡ lengths_of book lists q.ancestors q.descendants first second) where
  abbrev there : Bool
  there = thereb book (lists_in book) q.ancestors q.descendants

  answer_of_lem : {v : Result Lengths Refusal} → lengths_of book (lists_in book) q.ancestors q.descendants first second ≡ v → r ≡ v
  answer_of_lem f = e ∙ ap (λ n. lengths_of book n q.ancestors q.descendants first second) ok.1 ∙ f

  copied : there ≡ true → r ≡ Ok (lengths (length (list_under book q.ancestors)) (length (list_under book q.descendants)))
  copied h = answer_of_lem (lists_copied book ok.0 q.ancestors q.descendants h first second ok.2 ok.3).0

  not_copied : there ≡ false → r ≡ refused Absent
  not_copied h = answer_of_lem (none_copied book (lists_in book) q.ancestors q.descendants h first second).0

  -- The copying finds the lists exactly when the question does, with the same verdict.
  copy_finds : find_lists book q.ancestors q.descendants ≡ verdict (answer_in r) ANCESTORS 0
  unfolding find_lists_up_to
  copy_finds =
      elim (either there) [
        | inl h ↦ rw (accepts (book_verdict book) ok.0, h, copied h) refl
        | inr h ↦ rw (accepts (book_verdict book) ok.0, h, not_copied h) refl
      ]

  pub question_refused : (refusal : Refusal) → r ≡ Err refusal → (out : List ℕ)
      → let p = refused_page (verdict_of (at_no_node refusal)) q.ticket in
      record { answer : p ≡ page_to book q out; output : out ≡ output_to book q out }
  question_refused refusal h out =
      let found = copy_finds ∙ ap (λ x. verdict (answer_in x) ANCESTORS 0) h in
      let v = verdict (number_of refusal) ANCESTORS 0 in
      record {
        answer = sym (unfound_page book q v found (never_taken refusal) out);
        output = sym (unfound_output book q v found (never_taken refusal) out);
      }

  module _ (l : Lengths) (yes : r ≡ Ok l) where
    both : there ≡ true
    both =
        elim (either there) [
          | inl h ↦ h
          | inr h ↦ (let a = ap (answer_in {A = Lengths}) (sym yes ∙ not_copied h) in absurd (omega arith))
        ]

    pub lengths_fit : (l.ancestors ≤ NODE_WORDS * MOST_NODES) × (l.descendants ≤ NODE_WORDS * MOST_NODES)
    lengths_fit = copies_fit book ok.0 q.ancestors q.descendants both first second ok.2 ok.3 lists ok.1 l (sym yes ∙ e)

    -- The single call is made on the words copied, which are the lists'.
    pub question_answered : (f s : List ℕ) → f ≡ first_after book lists q.ancestors q.descendants first second
        → s ≡ second_after book lists q.ancestors q.descendants first second → (n m : ℕ) → n ≡ l.ancestors → m ≡ l.descendants
        → (out last : List ℕ) (p : PageWords) → p ≡ shown_page q.ticket (page_of (take n f) (take m s) (ticket_of q.ticket) out)
        → last ≡ output_after (take n f) (take m s) (ticket_of q.ticket) out
        → record { answer : p ≡ page_to book q out; output : last ≡ output_to book q out }
    unfolding page_to_up_to output_to_up_to
    question_answered f s x y n m u v out last p a o =
        let w = copies_taken book ok.0 q.ancestors q.descendants both first second ok.2 ok.3 lists ok.1 l (sym yes ∙ e) f s x y n m u v in
        rw (copy_finds, yes, accepts taken refl)
        (record {
          answer = a ∙ λ k. shown_page q.ticket (page_of (w.0 k) (w.1 k) (ticket_of q.ticket) out);
          output = o ∙ λ k. output_after (w.0 k) (w.1 k) (ticket_of q.ticket) out;
        })

-- A whole call. The words of its questions are checked first, then the book.
module _ (book words out : List ℕ) where
  abbrev Answered : Pages → List ℕ → Type 0
  Answered r last = record { answer : r ≡ ask_of book words out; output : last ≡ ask_output book words out }

  module _ (refusal : Refusal) (e : number_of refusal ≡ check_questions words) where
    pub call_refused : (ps : List PageWords) → ps ≡ padded (refused_pages (verdict_of (at_no_node refusal)) (questions_in words))
        → Answered (record { answer = number_of refusal; questions = 0; pages = ps }) out
    unfolding ask_of_up_to ask_output_up_to
    call_refused ps g =
        rw (← e, ne_eqb (number_of refusal) TAKEN (never_taken refusal))
        (record { answer = λ k. record { answer = number_of refusal; questions = 0; pages = g k }; output = refl })

  module _ (e : ◌≡◌ {A = ℕ} TAKEN (check_questions words)) where
    pub call_answered : (count : ℕ) → count ≡ question_count words → (ps : List PageWords) (last : List ℕ)
        → ps ≡ padded (pages_to book (questions_in words) out) → last ≡ output_after_all book (questions_in words) out
        → Answered (record { answer = TAKEN; questions = count; pages = ps }) last
    unfolding ask_of_up_to ask_output_up_to
    call_answered count n ps last g o =
        rw (← e)
        (record {
          answer = λ k. record { answer = TAKEN; questions = (n ∙ sym (length_questions words)) k; pages = g k };
          output = o;
        })

    -- Each question is refused as the book is.
    pub book_refused : (f : Fault) → opened_in (Err f) ≡ check_book book → (count : ℕ) → count ≡ question_count words
        → (ps : List PageWords) → ps ≡ padded (refused_pages (verdict_of f) (questions_in words))
        → Answered (record { answer = TAKEN; questions = count; pages = ps }) out
    book_refused f o count n ps g =
        let b = opened_err book f o in
        let r = all_refused book b.1 (questions_in words) out in
        call_answered count n ps out (g ∙ ap (λ v. padded (refused_pages v (questions_in words))) b.0 ∙ ap padded (sym r.0)) (sym r.1)

    -- Or the book and its questions may be asked.
    pub book_good : (lists : ℕ) → opened_in (Ok lists) ≡ check_book book
        → ((book_verdict book).answer ≡ TAKEN) × (lists ≡ lists_in book) × (question_count words ≤ MOST_QUESTIONS)
    book_good lists o =
        let b = opened_ok book lists o in
        (b.0, b.1, few_questions words (sym e))
