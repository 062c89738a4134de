-- Why it holds: What is written is read back as the very words that it was written from. What is
-- read as a book is written back to the very bytes that it was read from.
-- What would break it: A tag, a count, a node or a byte that did not come back would be caught
-- here.
use mathlib.Core.Path.{◌≡◌, ap, sym, subst, ◌∙◌}
use mathlib.Core.List.{List, map, flat_map}
use Prim.Native.Nat.{ℕ, ◌%◌, ◌≤◌, ◌<◌}
use native.Mathlib.Omega.{arith}
use lib.ListN.{length}
use Rattle.answers.specs.Answer.{TAKEN}
use Rattle.laws.specs.Choose.{All}
use Rattle.nodes.specs.Words.{NODE_WORDS, nodes, words_of}
use Rattle.answers.specs.Output.{words_in}
use Rattle.nodes.proofs.WordLaws.{nodes_of_words, length_words, words_of_nodes}
use Rattle.contents.specs.Contents.{lists_in, contents_of, contents_end, contents_fault}
use Rattle.answers.specs.Verdict.{taken}
use Rattle.books.specs.Book.{nodes_of, check_parts, book_verdict_up_to, book_verdict}
use Rattle.books.proofs.Answers.{parts_faultless}
use Rattle.writing.specs.Back.{wanted_in, bodies_in, entries_from, nodes_from}
use Rattle.writing.specs.Wanted.{WANTED_WORDS, wanted, wanted_words, contents_for, bodies_for, size_for, wanted_fault, book_numbers, book_bytes}
use Rattle.writing.specs.WriteCall.{check_wanted, bytes_for}
use Rattle.writing.proofs.Checking.{whole_checked, taken_whole, taken_fault, taken_parts}
use Rattle.writing.proofs.BodyOffsets.{beyond}
use Rattle.writing.proofs.Outcomes.{WritesBook, write_taken}
use Rattle.writing.proofs.Reading.{Reads, same_wanted, same_fault, same_bodies, same_nodes, same_check, reads_written}
use Rattle.writing.proofs.Rereading.{reads_read, same_bytes}
use Rattle.writing.proofs.Rules.{Rules, Small, rules_written, wanted_short, small_laid}
use Rattle.writing.proofs.WantedLaws.{wanted_of_words, words_of_wanted, length_wanted_words, tags_of}

-- What is written is read back.
module _ (entries list : List ℕ) (t : (check_wanted entries list).answer ≡ TAKEN) where
  kept : Rules (length (wanted entries)) (contents_for (wanted entries)) (size_for (wanted entries) (nodes list))
  kept = rules_written (wanted entries) (nodes list) (taken_fault entries list t)

  module _ (small : All Small entries) (words : All Small list) where
    numbers_small : All Small (book_numbers (wanted entries) (nodes list))
    unfolding book_numbers contents_for contents_end
    numbers_small =
        let ws = wanted entries in
        let few = kept.few in (
          omega arith,
          small_laid
              (contents_end (length ws)) ws (words_in words_of (nodes list)) (omega arith) (tags_of Small entries small)
              (wanted_short ws (nodes list) (taken_fault entries list t))
              (rw (words_of_nodes list (taken_whole entries list t).1) words),
        )

    reads : Reads (bytes_for entries list) (wanted entries) (nodes list)
    unfolding bytes_for
    reads = reads_written (wanted entries) (nodes list) numbers_small

    pub written_taken : book_verdict (bytes_for entries list) ≡ taken
    written_taken = same_check (bytes_for entries list) (wanted entries) (nodes list) reads kept ∙ taken_parts entries list t

    pub lists_back : lists_in (bytes_for entries list) ≡ length (wanted entries)
    lists_back = reads.lists

    pub wanted_back : wanted_in (bytes_for entries list) ≡ wanted entries
    wanted_back = same_wanted (bytes_for entries list) (wanted entries) (nodes list) reads

    pub bodies_back : bodies_in (bytes_for entries list) ≡ bodies_for (wanted entries) (nodes list)
    bodies_back = same_bodies (bytes_for entries list) (wanted entries) (nodes list) reads kept

    pub entries_back : entries_from (bytes_for entries list) ≡ entries
    unfolding entries_from
    entries_back = ap (words_in wanted_words) wanted_back ∙ words_of_wanted entries (taken_whole entries list t).0

    pub nodes_back : nodes_from (bytes_for entries list) ≡ list
    unfolding nodes_from
    nodes_back =
        ap (words_in words_of) (same_nodes (bytes_for entries list) (wanted entries) (nodes list) reads kept)
        ∙ words_of_nodes list (taken_whole entries list t).1

-- What is read as a book is written back.
module _ (book : List ℕ) (t : (book_verdict book).answer ≡ TAKEN) where
  faultless : contents_fault book ≡ TAKEN
  unfolding book_verdict_up_to
  faultless = parts_faultless (contents_fault book) (map (nodes_of book) (contents_of book)) t

  reads_book : Reads book (wanted_in book) (beyond (lists_in book) book)
  reads_book = reads_read book faultless

  kept_back : Rules (length (wanted_in book)) (contents_for (wanted_in book)) (size_for (wanted_in book) (beyond (lists_in book) book))
  kept_back = rules_written (wanted_in book) (beyond (lists_in book) book)
      (sym (same_fault book (wanted_in book) (beyond (lists_in book) book) reads_book) ∙ faultless)

  nodes_read : nodes (nodes_from book) ≡ beyond (lists_in book) book
  unfolding nodes_from
  nodes_read =
      nodes_of_words (flat_map (nodes_of book) (contents_of book))
      ∙ same_nodes book (wanted_in book) (beyond (lists_in book) book) reads_book kept_back

  entries_read : wanted (entries_from book) ≡ wanted_in book
  unfolding entries_from
  entries_read = wanted_of_words (wanted_in book)

  pub lists_read : length (wanted (entries_from book)) ≡ lists_in book
  lists_read = ap length entries_read ∙ sym reads_book.lists

  whole_entries : length (entries_from book) % WANTED_WORDS ≡ 0
  unfolding entries_from
  whole_entries = let l = length_wanted_words (wanted_in book) in omega arith

  whole_nodes : length (nodes_from book) % NODE_WORDS ≡ 0
  unfolding nodes_from
  whole_nodes = let l = length_words (flat_map (nodes_of book) (contents_of book)) in omega arith

  pub read_checked : check_wanted (entries_from book) (nodes_from book) ≡ book_verdict book
  read_checked =
      sym (whole_checked (entries_from book) (nodes_from book) whole_entries whole_nodes)
      ∙ (λ k. check_parts (wanted_fault (entries_read k) (nodes_read k)) (bodies_for (entries_read k) (nodes_read k)))
      ∙ sym (same_check book (wanted_in book) (beyond (lists_in book) book) reads_book kept_back)

  pub read_taken : (check_wanted (entries_from book) (nodes_from book)).answer ≡ TAKEN
  read_taken = ap (λ v. v.answer) read_checked ∙ t

  pub bytes_back : All (λ b. b < 256) book → bytes_for (entries_from book) (nodes_from book) ≡ book
  unfolding bytes_for
  bytes_back small =
      (λ k. book_bytes (entries_read k) (nodes_read k)) ∙ same_bytes book (wanted_in book) (beyond (lists_in book) book) reads_book small

-- With room for it, the call writes a book that is read back as the words that the call was given.
pub words_return : (entries list out : List ℕ) → All Small entries → All Small list → (check_wanted entries list).answer ≡ TAKEN
    → length (bytes_for entries list) ≤ length out
    → WritesBook entries list out (bytes_for entries list)
    × (book_verdict (bytes_for entries list) ≡ taken)
    × (entries_from (bytes_for entries list) ≡ entries)
    × (nodes_from (bytes_for entries list) ≡ list)
words_return entries list out small words t room = (
  write_taken entries list out t room,
  written_taken entries list t small words,
  entries_back entries list t small words,
  nodes_back entries list t small words,
)

-- And what was read as a book is written as that book.
pub book_returns : (book out : List ℕ) → All (λ b. b < 256) book → (book_verdict book).answer ≡ TAKEN → length book ≤ length out
    → WritesBook (entries_from book) (nodes_from book) out book
book_returns book out small t room =
    let b = bytes_back book t small in
    subst (WritesBook (entries_from book) (nodes_from book) out) b
    (write_taken (entries_from book) (nodes_from book) out (read_taken book t) (rw b room))
