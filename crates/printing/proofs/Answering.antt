-- Why it holds: A checked book with two lists or more has a first and a second, each under its own
-- tag. Both are copied whole. So the lists that are joined are the book's.
-- What would break it: Another list joined, or a check left out, would be caught here.
use mathlib.Core.Path.{◌≡◌, refl, sym, ap, ◌∙◌}
use mathlib.Core.Bool.{true}
use mathlib.Core.List.{List}
use Prim.Native.Nat.{ℕ, ◌*◌, ◌≤◌, ◌<◌}
use native.Mathlib.Omega.{arith}
use lib.ListN.{length, take}
use borrow.Author.Tests.{lt-ltb, le-ltb}
use Rattle.std.specs.Prelude.{Ok, Err}
use Rattle.laws.proofs.Tests.{and_make}
use Rattle.answers.specs.declared.refusal.Refusal.{Refusal}
use Rattle.answers.specs.Answer.{TAKEN, LONG, ABSENT}
use Rattle.nodes.specs.Words.{NODE_WORDS, MOST_NODES}
use Rattle.contents.specs.declared.entry.Entry.{Entry}
use Rattle.contents.specs.Contents.{lists_in, entry_at}
use Rattle.lists.specs.Two.{check_two}
use Rattle.answers.specs.Verdict.{ANCESTORS, verdict, taken}
use Rattle.answers.proofs.VerdictLaws.{refuses, accepts}
use Rattle.books.specs.declared.book.Opened.{Opened}
use Rattle.books.specs.Book.{book_verdict, check_book, list_at}
use Rattle.books.specs.Find.{verdict_at_up_to}
use Rattle.books.proofs.FindLaws.{tag_there}
use Rattle.books.proofs.BookLaws.{opened_verdict, opened_lists}
use Rattle.joins.specs.declared.copy.Lengths.{Lengths}
use Rattle.joins.specs.Join.{tag_words, thereb, lengths_of, first_after, second_after}
use Rattle.joins.proofs.Joined.{own_words, lists_copied, copies_fit, copies_taken}
use Rattle.printing.specs.Print.{MOST_BYTES, printed_answer_up_to, printed_answer}

module _ (book : List ℕ) where
  -- The answers of the program, in their order.
  pub too_long : MOST_BYTES < length book → LONG ≡ printed_answer book
  unfolding printed_answer_up_to
  too_long h = rw (lt-ltb MOST_BYTES (length book) h) refl

  module _ (short : length book ≤ MOST_BYTES) (o : Opened) (e : o ≡ check_book book) where
    own : o.verdict.answer ≡ (book_verdict book).answer
    own = ap (λ p. p.verdict.answer) e ∙ ap (λ v. v.answer) (opened_verdict book)

    pub refused_book : (o.verdict.answer ≡ TAKEN → ⊥) → o.verdict.answer ≡ printed_answer book
    unfolding printed_answer_up_to verdict_at_up_to
    refused_book h =
        let r = refuses (book_verdict book) (λ t. h (own ∙ t)) in
        rw (le-ltb MOST_BYTES (length book) short, r, r) own

    module _ (good : o.verdict.answer ≡ TAKEN) where
      pub book_good : (book_verdict book).answer ≡ TAKEN
      book_good = sym own ∙ good

      pub its_lists : o.lists ≡ lists_in book
      its_lists = ap (λ p. p.lists) e ∙ opened_lists book book_good

      pub one_list : o.lists < 2 → ◌≡◌ {A = ℕ} ABSENT (printed_answer book)
      unfolding printed_answer_up_to verdict_at_up_to
      one_list h =
          let l = its_lists in
          rw (
            le-ltb MOST_BYTES (length book) short,
            accepts (book_verdict book) book_good,
            le-ltb 1 (lists_in book) (omega arith),
            refuses (verdict ABSENT ANCESTORS 0) (λ t. omega arith),
          ) refl

      pub joined : 1 < o.lists → (answer : ℕ) → answer ≡ (check_two (list_at book 0) (list_at book 1)).answer → answer ≡ printed_answer book
      unfolding printed_answer_up_to verdict_at_up_to
      joined h answer q =
          let l = its_lists in
          rw (le-ltb MOST_BYTES (length book) short, accepts (book_verdict book) book_good, lt-ltb 1 (lists_in book) (omega arith), accepts taken refl) q

-- What is copied of the lists under the tags of the first entry and the second.
module _ (book : List ℕ) (lists : ℕ) (ok : ((book_verdict book).answer ≡ TAKEN) × (lists ≡ lists_in book) × (1 < lists))
    (a d : Entry) (p : a ≡ entry_at book 0) (q : d ≡ entry_at book 1) (first second : List ℕ)
    (room : NODE_WORDS * MOST_NODES ≤ length first) (more : NODE_WORDS * MOST_NODES ≤ length second) where
  there : (0 < lists_in book) × (1 < lists_in book)
  there =
      let n = ok.1 in
      let two = ok.2 in
      (omega arith, omega arith)

  both : thereb book (lists_in book) a.tag d.tag ≡ true
  unfolding thereb
  both = rw (p, q) (and_make (tag_there book ok.0 0 there.0) (tag_there book ok.0 1 there.1))

  -- Both lists are there, and there is room for both.
  pub none_refused : (r : Refusal) → Err r ≡ lengths_of book lists a.tag d.tag first second → ⊥
  none_refused r e =
      let own = ok.1 in
      let f = rw own at e ∙ (lists_copied book ok.0 a.tag d.tag both first second room more).0 in
      cc

  module _ (l : Lengths) (e : Ok l ≡ lengths_of book lists a.tag d.tag first second) where
    pub lengths_fit : (l.ancestors ≤ NODE_WORDS * MOST_NODES) × (l.descendants ≤ NODE_WORDS * MOST_NODES)
    lengths_fit = copies_fit book ok.0 a.tag d.tag both first second room more lists ok.1 l e

    pub own_lists : (f s : List ℕ) → f ≡ first_after book lists a.tag d.tag first second
        → s ≡ second_after book lists a.tag d.tag first second → (n m : ℕ) → n ≡ l.ancestors → m ≡ l.descendants
        → (take n f ≡ list_at book 0) × (take m s ≡ list_at book 1)
    own_lists f s x y n m u v =
        let w = copies_taken book ok.0 a.tag d.tag both first second room more lists ok.1 l e f s x y n m u v in (
          w.0 ∙ ap (λ z. tag_words book (lists_in book) z.tag) p ∙ own_words book ok.0 0 there.0,
          w.1 ∙ ap (λ z. tag_words book (lists_in book) z.tag) q ∙ own_words book ok.0 1 there.1,
        )
