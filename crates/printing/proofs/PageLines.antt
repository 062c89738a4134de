-- Why it holds: A page's output begins with the words of the pairs that it hands out. A text with
-- room for the longest line of each pair gets all their lines.
-- What would break it: A page with more pairs than room, or lines of other words than those handed
-- out, would be caught here.
use mathlib.Core.Path.{◌≡◌, ap, ◌∙◌}
use mathlib.Core.List.{List}
use Prim.Native.Nat.{ℕ, ◌*◌, ◌/◌, ◌≤◌}
use native.Mathlib.Omega.{arith}
use lib.ListN.{length, take, drop, length-append}
use lib.Seq.{take_all, take-append_seam}
use Rattle.nodes.specs.Words.{nodes}
use Rattle.answers.specs.Output.{words_in, written}
use Rattle.lists.specs.Two.{check_two}
use Rattle.tickets.specs.declared.ticket.Ticket.{Ticket}
use Rattle.tickets.specs.Listing.{Pair}
use Rattle.tickets.specs.PairWords.{PAIR_WORDS, pairs_in, room}
use Rattle.pairs.specs.declared.page.Page.{Page}
use Rattle.pairs.specs.Calls.{Call}
use Rattle.pairs.specs.Page.{handed_out, page_of, output_after}
use Rattle.pairs.proofs.Answered.{count_given, given_fits, output_begins}
use Rattle.pairs.proofs.Shown.{pairs_read}
use Rattle.lines.specs.Line.{LINE_BYTES, pair_line, lines_for}

module _ (ancestors descendants : List ℕ) (t : Ticket) (out : List ℕ) where
  abbrev c : Call
  c = record { ancestors = ancestors; descendants = descendants; out = out }

  abbrev given : List Pair
  given = handed_out ancestors descendants t out

  -- The lines made of the words of the pairs handed out are those of the pairs.
  given_lines : (text : List ℕ) → LINE_BYTES * room out ≤ length text
      → lines_for (take (PAIR_WORDS * length given) (output_after ancestors descendants t out)) text ≡ words_in pair_line given
  unfolding lines_for
  given_lines text h =
      let few = given_fits t c in
      let most = length text / LINE_BYTES in
      ap (λ words. words_in pair_line (take most (pairs_in (nodes words)))) (output_begins t c)
      ∙ ap (λ ps. words_in pair_line (take most ps)) (pairs_read given)
      ∙ ap (words_in pair_line) (take_all most given (omega arith))

  -- A page counts the pairs that it hands out.
  page_count : (r : Page) → r ≡ page_of ancestors descendants t out → r.count ≡ length given
  page_count r e = ap (λ p. p.count) e ∙ count_given t c

  pub page_few : (r : Page) → r ≡ page_of ancestors descendants t out → PAIR_WORDS * r.count ≤ length out
  page_few r e = let n = page_count r e in let few = given_fits t c in omega arith

  -- The text with the lines put into it begins with those of the pairs handed out.
  pub lines_made : (r : Page) → r ≡ page_of ancestors descendants t out → (out' : List ℕ) → out' ≡ output_after ancestors descendants t out
      → (n : ℕ) → n ≡ PAIR_WORDS * r.count → (text after : List ℕ) (size : ℕ) → LINE_BYTES * room out ≤ length text
      → size ≡ length (lines_for (take n out') text) → after ≡ written (lines_for (take n out') text) text
      → record { page : r ≡ page_of ancestors descendants t out; bytes : size ≤ length after; lines : take size after ≡ words_in pair_line given }
  unfolding written
  lines_made r e out' o n q text after size h b l =
      let us = lines_for (take n out') text in
      let made : us ≡ words_in pair_line given =
      (λ i. lines_for (take ((q ∙ ap (λ k. PAIR_WORDS * k) (page_count r e)) i) (o i)) text) ∙ given_lines text h in
      record {
        page = e;
        bytes = rw (b, l) (omega (arith, length-append us (drop (length us) text)));
        lines = rw (b, l) (take-append_seam us (drop (length us) text) ∙ made);
      }

  -- A page's verdict is that on the two lists.
  pub page_answer : (r : Page) → r ≡ page_of ancestors descendants t out → r.verdict.answer ≡ (check_two ancestors descendants).answer
  unfolding page_of
  page_answer r e = ap (λ p. p.verdict.answer) e

-- A line put into a buffer has no more bytes than the buffer.
pub part_fits : (us before after : List ℕ) (size : ℕ) → size ≡ length us → after ≡ written us before → size ≤ length after
unfolding written
part_fits us before after size b l = rw (b, l) (omega (arith, length-append us (drop (length us) before)))
