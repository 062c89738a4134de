-- Why it holds: The pages of two lists that nobody alters are their full listing. So the lines of
-- the pages, one page after the other, are those of the listing.
-- What would break it: A page left out or printed twice, or a number other than that of the pairs,
-- would be caught here.
use mathlib.Core.Path.{◌≡◌, ap, ◌∙◌}
use mathlib.Core.Logic.{inl, inr}
use mathlib.Core.Bool.{true}
use mathlib.Core.List.{List, [], ◌∷◌, ◌++◌}
use Prim.Native.Nat.{ℕ}
use native.Mathlib.Omega.{arith}
use lib.Dec.{ltb, eqb}
use lib.ListN.{length}
use borrow.Author.Tests.{eq-eqb, eqb-false}
use Rattle.answers.specs.Answer.{TAKEN, LONG}
use Rattle.laws.specs.Choose.{All}
use Rattle.nodes.specs.Words.{nodes}
use Rattle.answers.specs.Output.{words_in}
use Rattle.laws.proofs.Tests.{either}
use Rattle.answers.specs.Verdict.{refusedb}
use Rattle.lists.specs.Two.{check_two}
use Rattle.tickets.specs.declared.ticket.Order.TheVariants.{Descendant}
use Rattle.tickets.specs.declared.ticket.Relation.TheVariants.{Inside}
use Rattle.tickets.specs.declared.ticket.Ticket.{Ticket}
use Rattle.tickets.specs.Listing.{Pair, listing}
use Rattle.tickets.specs.Ticket.{fresh_ticket, asked}
use Rattle.pairs.specs.Calls.{Call, SameLists, answer, ticket_through, shown_through}
use Rattle.pairs.proofs.Unaltered.{whole_through}
use Rattle.books.specs.Find.{verdict_at}
use Rattle.lines.specs.Line.{pair_line, total_line}
use Rattle.printing.specs.Print.{MOST_BYTES, printed_answer_up_to, printed_answer, listing_in, printed_up_to, printed}
use Rattle.books.specs.Book.{list_at}

-- The ticket that the program starts with.
abbrev first : Ticket
first = fresh_ticket (asked Inside Descendant)

module _ (book : List ℕ) (good : printed_answer book ≡ TAKEN) where
  -- If the program's answer is TAKEN, the two lists are accepted together.
  lists_taken : (check_two (list_at book 0) (list_at book 1)).answer ≡ TAKEN
  unfolding printed_answer_up_to refusedb
  lists_taken =
      elim (either (ltb MOST_BYTES (length book))) [
        | inl h ↦ let e : LONG ≡ TAKEN = rw h at good in absurd (omega arith)
        | inr h ↦ elim (either (eqb (verdict_at book 1).answer TAKEN)) [
          | inl k ↦ rw (h, k) at good
          | inr k ↦ let e : (verdict_at book 1).answer ≡ TAKEN = rw (h, k) at good in absurd (eqb-false (verdict_at book 1).answer TAKEN k e)
        ]
      ]

  -- Pages of the book's two lists, from a fresh ticket up to one that is done.
  module _ (cs : List Call) (c : Call) (one : c.ancestors ≡ list_at book 0) (two : c.descendants ≡ list_at book 1)
      (same : All (λ k. SameLists k c) cs) (done : (answer (ticket_through first cs) c).done ≡ true) where
    abbrev shown : List Pair
    shown = shown_through first (cs ++ c ∷ [])

    -- What they hand out, line by line, and its number are what is printed.
    pub pages_printed : words_in pair_line shown ++ total_line (length shown) ≡ printed book
    unfolding printed_up_to listing_in
    pages_printed =
        let a = ap (λ xs. (check_two xs c.descendants).answer) one ∙ ap (λ ys. (check_two (list_at book 0) ys).answer) two ∙ lists_taken in
        let whole : shown ≡ listing_in book =
        whole_through (asked Inside Descendant) c a cs same done ∙ λ i. listing (asked Inside Descendant) (nodes (one i)) (nodes (two i)) in
        rw (eq-eqb (printed_answer book) TAKEN good) (ap (λ ps. words_in pair_line ps ++ total_line (length ps)) whole)
