-- Function: `write_book` (src/write.rt).
-- Why it holds: The check's own verdict refuses. What is taken has a book of exactly the size that
-- is tested for. The contents and the nodes after them are its bytes.
-- What would break it: A test of the room one byte off would be caught at its return. Nodes written
-- elsewhere would be caught at the last one.
use borrow.Author.Rules.{rules}
use mathlib.Core.Path.{◌≡◌, refl, sym, ap, ◌∙◌}
use mathlib.Core.List.{List, ◌∷◌, ◌++◌}
use Prim.Native.Nat.{ℕ, ◌+◌, ◌*◌, ◌/◌, ◌≤◌, ◌<◌}
use native.Mathlib.Omega.{arith}
use lib.ListN.{length, length-append}
use lib.Seq.{sets}
use Rattle.std.proofs.lemmas.Result.{err_from_is_err_and}
use Rattle.answers.specs.Answer.{TAKEN, ROOM}
use Rattle.answers.specs.Refusal.{verdict_of}
use Rattle.answers.proofs.RefusalLaws.{never_taken}
use Rattle.nodes.specs.Words.{nodes}
use Rattle.answers.specs.Output.{words_in, written}
use Rattle.nodes.proofs.WordLaws.{length_nodes, words_of_nodes}
use Rattle.answers.proofs.OutputLaws.{written_more, words_append}
use Rattle.numbers.specs.Little.{bytes_of}
use Rattle.contents.specs.Contents.{MOST_LISTS, entry_numbers, contents_end}
use Rattle.answers.specs.declared.verdict.Verdict.{Verdict}
use Rattle.answers.specs.Verdict.{ANCESTORS, verdict, taken, counted}
use Rattle.answers.specs.declared.verdict.Counted.{Counted}
use Rattle.writing.specs.Wanted.{WANTED_WORDS, wanted, contents_for, size_for, wanted_fault, book_numbers, book_bytes}
use Rattle.writing.specs.WriteCall.{check_wanted, bytes_for, written_of, written_output}
use Rattle.writing.proofs.Checking.{taken_whole, taken_fault}
use Rattle.writing.proofs.Outcomes.{write_refused, write_room, write_taken}
use Rattle.writing.proofs.Putting.{length_front}
use Rattle.writing.proofs.Reading.{size_written}
use Rattle.writing.proofs.Rules.{wanted_short, wanted_few}
use Rattle.writing.proofs.WantedLaws.{length_wanted}
use Rattle.writing.proofs.write.write_book.Goals as goal

module _ (entries list : List ℕ) (v : Verdict) (q : v ≡ check_wanted entries list) where
  abbrev Answers : List ℕ → Counted → List ℕ → Type 0
  Answers out r after = record { answer : r ≡ written_of entries list out; output : after ≡ written_output entries list out }

  refused : (out : List ℕ) → (v.answer ≡ TAKEN → ⊥) → Answers out (counted v 0) out
  refused out h =
      let r = write_refused entries list out (λ e. h (ap (λ u. u.answer) q ∙ e)) in
      record { answer = ap (λ u. counted u 0) q ∙ sym r.0; output = sym r.1 }

  module _ (t : v.answer ≡ TAKEN) where
    was_taken : (check_wanted entries list).answer ≡ TAKEN
    was_taken = ap (λ u. u.answer) (sym q) ∙ t

    faultless : wanted_fault (wanted entries) (nodes list) ≡ TAKEN
    faultless = taken_fault entries list was_taken

    few : length entries / WANTED_WORDS ≤ MOST_LISTS
    few = wanted_few entries (nodes list) faultless

    -- The size tested for is the book's.
    sized : (lists end size : ℕ) → lists ≡ length entries / WANTED_WORDS → end ≡ contents_end lists → size ≡ end + 4 * length list
        → length (bytes_for entries list) ≡ size
    unfolding bytes_for size_for
    sized lists end size n e s =
        let w = length_nodes list in
        let h = (taken_whole entries list was_taken).1 in
        let c = ap contents_end (n ∙ sym (length_wanted entries)) in
        size_written (wanted entries) (nodes list) ∙ omega arith

    no_room : (out : List ℕ) (size : ℕ) (r : Counted) → length (bytes_for entries list) ≡ size → length out < size
        → r ≡ counted (verdict ROOM ANCESTORS 0) 0 → Answers out r out
    no_room out size r s h e =
        let w = write_room entries list out was_taken (omega arith) in
        record { answer = e ∙ sym w.0; output = sym w.1 }

    -- The nodes after the contents make the book.
    book_made : (out front last : List ℕ) (lists : ℕ) → lists ≡ length entries / WANTED_WORDS → length (bytes_for entries list) ≤ length out
        → front ≡ written (words_in bytes_of (length (wanted entries) ∷ words_in entry_numbers (contents_for (wanted entries)))) out
        → last ≡ sets front (4 * (1 + 3 * lists)) (words_in bytes_of list) → last ≡ written (bytes_for entries list) out
    unfolding bytes_for book_bytes book_numbers contents_end
    book_made out front last lists n room f e =
        let us = length (wanted entries) ∷ words_in entry_numbers (contents_for (wanted entries)) in
        let l = length_wanted entries in
        let w = words_of_nodes list (taken_whole entries list was_taken).1 in
        let b : bytes_for entries list ≡ words_in bytes_of us ++ words_in bytes_of list =
        ap (λ ws. words_in bytes_of (us ++ ws)) w ∙ words_append bytes_of us list in
        let m = length_front (wanted entries) in
        let at : 4 * (1 + 3 * lists) ≡ length (words_in bytes_of us) = omega arith in
        let both = ap length b ∙ length-append (words_in bytes_of us) (words_in bytes_of list) in
        e
        ∙ (λ k. sets (f k) (at k) (words_in bytes_of list))
        ∙ written_more (words_in bytes_of us) (words_in bytes_of list) out (omega arith)
        ∙ ap (λ bs. written bs out) (sym b)

    done : (out last : List ℕ) (size : ℕ) (r : Counted) → length (bytes_for entries list) ≡ size → size ≤ length out → r ≡ counted taken size
        → last ≡ written (bytes_for entries list) out → Answers out r last
    done out last size r s h c e =
        let w = write_taken entries list out was_taken (omega arith) in
        record { answer = c ∙ (λ k. counted taken (sym s k)) ∙ sym w.0; output = e ∙ sym w.1 }

pub returns-in_err-check_wanted : goal.returns-in_err-check_wanted
returns-in_err-check_wanted c =
    let a = c.args in
    let p = err_from_is_err_and c.from_residual.result c.from_residual.ensures.1 in
    rw (p.1, p.2) (refused a.entries.now a.list.now _ c.in_err-check_wanted.ensures _ (never_taken c.in_err-check_wanted.field-0.0.refusal))

pub overflow_cast-lists : goal.overflow_cast-lists
overflow_cast-lists c =
    let a = c.args in
    let m = few a.entries.now a.list.now _ c.in_ok-check_wanted.ensures refl in
    search rules

pub overflow_add-size : goal.overflow_add-size
unfolding contents_end
overflow_add-size c =
    let a = c.args in
    let m = few a.entries.now a.list.now _ c.in_ok-check_wanted.ensures refl in
    search rules

pub returns-then-out-size : goal.returns-then-out-size
returns-then-out-size c =
    let a = c.args in
    let q = c.in_ok-check_wanted.ensures in
    let size = sized a.entries.now a.list.now _ q refl _ _ _ c.wanted_count-lists.ensures c.contents_end.ensures refl in
    no_room a.entries.now a.list.now _ q refl _ _ _ size (omega arith) (ap (λ f. counted (verdict_of f) 0) c.into.ensures)

pub put_contents-requires : goal.put_contents-requires
unfolding contents_end
put_contents-requires c =
    let a = c.args in
    let good = faultless a.entries.now a.list.now _ c.in_ok-check_wanted.ensures refl in
    (wanted_few a.entries.now (nodes a.list.now) good, wanted_short (wanted a.entries.now) (nodes a.list.now) good, omega arith)

pub put_numbers-requires : goal.put_numbers-requires
unfolding contents_end
put_numbers-requires c = search rules

pub returns : goal.returns
returns c =
    let a = c.args in
    let q = c.in_ok-check_wanted.ensures in
    let size = sized a.entries.now a.list.now _ q refl _ _ _ c.wanted_count-lists.ensures c.contents_end.ensures refl in
    let made = book_made a.entries.now a.list.now _ q refl a.out.now _ _ _ c.wanted_count-lists.ensures (omega arith)
    c.put_contents.ensures c.put_numbers.ensures in
    done a.entries.now a.list.now _ q refl a.out.now _ _ _ size (omega arith) refl made
