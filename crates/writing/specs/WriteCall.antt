-- docs/SCOPE.md, "The field book": what writing answers and writes. Its checks are RAGGED,
-- CONTENTS, the bodies and ROOM, in that order.
use Rattle.std.specs.Prelude.{ℕ, cond, ◌||◌, List, length}
use Rattle.answers.specs.Answer.{RAGGED}
use Rattle.nodes.specs.Words.{nodes}
use Rattle.answers.specs.Output.{answer_of, if_taken, output_of}
use Rattle.answers.specs.declared.verdict.Verdict.{Verdict}
use Rattle.lists.specs.Check.{raggedb}
use Rattle.answers.specs.Verdict.{ANCESTORS, verdict}
use Rattle.contents.specs.Contents.{MOST_LISTS}
use Rattle.books.specs.Book.{check_parts}
use Rattle.answers.specs.declared.verdict.Counted.{Counted}
use Rattle.writing.specs.Wanted.{wanted, ragged_entries, bodies_for, wanted_fault_up_to, book_bytes}

-- The bytes of the book that entries and nodes make, given as words.
unfoldable pub bytes_for : List ℕ → List ℕ → List ℕ
bytes_for entries list = book_bytes (wanted entries) (nodes list)

-- The verdict of the checks before ROOM where a book may have up to `most` lists: whole entries,
-- whole nodes, CONTENTS, and the bodies in order.
unfoldable pub check_wanted_up_to : ℕ → List ℕ → List ℕ → Verdict
check_wanted_up_to most entries list =
    cond (ragged_entries entries || raggedb list) (verdict RAGGED ANCESTORS 0)
    (check_parts (wanted_fault_up_to most (wanted entries) (nodes list)) (bodies_for (wanted entries) (nodes list)))

-- A call with these entries, these nodes and an output, where a book may have up to `most` lists.
module _ (most : ℕ) (entries list out : List ℕ) where
  -- The call's answer, and how many bytes it wrote, none on refusal.
  unfoldable pub written_of_up_to : Counted
  written_of_up_to =
      let v = check_wanted_up_to most entries list in
      let book = bytes_for entries list in
      record {
        verdict = verdict (answer_of v.answer book out) v.list v.index;
        count = if_taken v.answer book out (length book) 0;
      }

  -- The output on return: it begins with the book; on refusal it is as it was.
  unfoldable pub written_output_up_to : List ℕ
  written_output_up_to = output_of (check_wanted_up_to most entries list).answer (bytes_for entries list) out

-- The library's own verdict, answer and output.
abbrev pub check_wanted : List ℕ → List ℕ → Verdict
check_wanted entries list = check_wanted_up_to MOST_LISTS entries list

abbrev pub written_of : List ℕ → List ℕ → List ℕ → Counted
written_of entries list out = written_of_up_to MOST_LISTS entries list out

abbrev pub written_output : List ℕ → List ℕ → List ℕ → List ℕ
written_output entries list out = written_output_up_to MOST_LISTS entries list out
