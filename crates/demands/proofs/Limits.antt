-- Books under a lower limit of lists and under a higher one (docs/SCOPE.md, "The field book").
-- `check_book_up_to most` and the like are the definitions that the contracts cite, with the limit
-- left open; at `MOST_LISTS` they are the library's own. A byte that changed with the limit, or a
-- list that the lower limit showed of a larger book, would be caught here.
use mathlib.Core.Path.{◌≡◌, sym, ap, ◌∙◌}
use mathlib.Core.List.{List, []}
use Prim.Native.Nat.{ℕ, ◌%◌, ◌≤◌, ◌<◌}
use native.Mathlib.Omega.{arith}
use lib.ListN.{length}
use Rattle.answers.specs.Answer.{TAKEN, LONG, CONTENTS}
use Rattle.answers.specs.Output.{written}
use Rattle.answers.specs.declared.verdict.Verdict.{Verdict}
use Rattle.answers.specs.Verdict.{ANCESTORS, verdict, taken, counted}
use Rattle.laws.specs.Choose.{All}
use Rattle.nodes.specs.Words.{NODE_WORDS}
use Rattle.contents.specs.Contents.{MOST_LISTS, EARLIER_LISTS, lists_in}
use Rattle.books.specs.Book.{book_verdict_up_to, opened, check_book_up_to}
use Rattle.books.specs.Find.{found, found_at_up_to, found_tag_up_to}
use Rattle.books.proofs.Limits.{many_refused_lem, many_opened, many_found, many_tag, taken_few, verdict_alike, opened_alike, found_alike, tag_alike}
use Rattle.readers.specs.Reader.{kept_lists_up_to, kept_body_up_to, kept_place_up_to}
use Rattle.readers.proofs.Kept.{no_lists, no_body, lists_alike, body_alike, place_alike}
use Rattle.writing.specs.Back.{entries_from, nodes_from}
use Rattle.writing.specs.Wanted.{WANTED_WORDS, wanted}
use Rattle.writing.specs.WriteCall.{check_wanted_up_to, bytes_for, written_of_up_to, written_output_up_to}
use Rattle.writing.proofs.Limits.{many_unwritten, many_answered, written_few, check_alike, written_alike}
use Rattle.writing.proofs.Returned.{lists_back, lists_read, words_return, book_returns}
use Rattle.questions.specs.Ask.{refused_pages, with_pages, ask_of_up_to, ask_output_up_to}
use Rattle.questions.specs.Question.{questions_in, check_questions}
use Rattle.questions.proofs.Limits.{many_unasked, many_asked, asked_alike}
use Rattle.lines.specs.Line.{refusal_line}
use Rattle.printing.specs.Print.{MOST_BYTES, printed_up_to}
use Rattle.printing.proofs.Limits.{prints_long, prints_contents, prints_alike}

-- Both limits write the same from these entries and nodes into this output.
abbrev pub WrittenAlike : (fewer more : ℕ) (entries list out : List ℕ) → Type 0
WrittenAlike fewer more entries list out =
    (written_of_up_to fewer entries list out ≡ written_of_up_to more entries list out)
    × (written_output_up_to fewer entries list out ≡ written_output_up_to more entries list out)

-- Both limits read the same in these bytes: in opening them, in finding a list at a position or
-- under a tag, by a reader, in questions and in printing.
pub record ReadAlike (fewer more : ℕ) (book : List ℕ) : Type 0 where
  pub opening : check_book_up_to fewer book ≡ check_book_up_to more book
  pub at_a_position : (position : ℕ) → found_at_up_to fewer book position ≡ found_at_up_to more book position
  pub under_a_tag : (tag : ℕ) → found_tag_up_to fewer book tag ≡ found_tag_up_to more book tag
  pub lists_of_a_reader : kept_lists_up_to fewer book ≡ kept_lists_up_to more book
  pub body_of_a_reader : (tag : ℕ) → kept_body_up_to fewer book tag ≡ kept_body_up_to more book tag
  pub place_of_a_body : (start : ℕ × ℕ) (tag : ℕ) → kept_place_up_to fewer book start tag ≡ kept_place_up_to more book start tag
  pub pages_of_questions : (words out : List ℕ) → ask_of_up_to fewer book words out ≡ ask_of_up_to more book words out
  pub output_of_questions : (words out : List ℕ) → ask_output_up_to fewer book words out ≡ ask_output_up_to more book words out
  pub printing : printed_up_to fewer book ≡ printed_up_to more book

-- The answer to a book that has more lists than the limit. It names no list and no node.
abbrev pub too_many : Verdict
too_many = verdict CONTENTS ANCESTORS 0

-- A limit shows nothing of these bytes. Opening them is CONTENTS and counts no list. No list is
-- found, and a reader has none and shows empty bodies. Questions write no word, whatever they are.
-- If the call isn't refused as a whole, each question is CONTENTS, isn't done, counts no pair and
-- returns its ticket. The program prints one line: LONG above 61,440 bytes, otherwise CONTENTS.
pub record ShowsNothing (most : ℕ) (book : List ℕ) : Type 0 where
  pub opening : check_book_up_to most book ≡ opened too_many 0
  pub at_a_position : (position : ℕ) → found_at_up_to most book position ≡ found too_many 0 0
  pub under_a_tag : (tag : ℕ) → found_tag_up_to most book tag ≡ found too_many 0 0
  pub lists_of_a_reader : kept_lists_up_to most book ≡ 0
  pub body_of_a_reader : (tag : ℕ) → kept_body_up_to most book tag ≡ []
  pub output_of_questions : (words out : List ℕ) → ask_output_up_to most book words out ≡ out
  pub pages_of_questions : (words out : List ℕ) → check_questions words ≡ TAKEN
      → ask_of_up_to most book words out ≡ with_pages TAKEN (length (questions_in words)) (refused_pages too_many (questions_in words))
  pub printing_long : MOST_BYTES < length book → printed_up_to most book ≡ refusal_line LONG
  pub printing_contents : length book ≤ MOST_BYTES → printed_up_to most book ≡ refusal_line CONTENTS

-- A book keeps every byte. Of a lower limit and a higher one:
module _ (fewer more : ℕ) (rises : fewer ≤ more) where
  -- From entries for no more lists than the lower limit, both write the same, whatever the entries
  -- and the nodes are.
  pub few_lists_are_written_alike : (entries list out : List ℕ) → length (wanted entries) ≤ fewer → WrittenAlike fewer more entries list out
  few_lists_are_written_alike entries list out h = written_alike fewer more entries list h (omega arith) out

  -- So whatever is accepted for writing under the lower limit is written alike.
  pub what_was_written_is_written_alike : (entries list out : List ℕ) → (check_wanted_up_to fewer entries list).answer ≡ TAKEN
      → WrittenAlike fewer more entries list out
  what_was_written_is_written_alike entries list out accepted = few_lists_are_written_alike entries list out (written_few fewer entries list accepted)

  -- In bytes whose contents have no more lists than the lower limit, both read the same, whatever
  -- else the bytes hold. Bytes too short for a first number count as having no lists.
  pub few_lists_are_read_alike : (book : List ℕ) → lists_in book ≤ fewer → ReadAlike fewer more book
  few_lists_are_read_alike book h = record {
    opening = opened_alike fewer more book h (omega arith);
    at_a_position = found_alike fewer more book h (omega arith);
    under_a_tag = tag_alike fewer more book h (omega arith);
    lists_of_a_reader = lists_alike fewer more book h (omega arith);
    body_of_a_reader = body_alike fewer more book h (omega arith);
    place_of_a_body = place_alike fewer more book h (omega arith);
    pages_of_questions = λ words out. (asked_alike fewer more book h (omega arith) words out).0;
    output_of_questions = λ words out. (asked_alike fewer more book h (omega arith) words out).1;
    printing = prints_alike fewer more book h (omega arith);
  }

  -- So whatever reads as a book under the lower limit is read alike.
  pub what_reads_is_read_alike : (book : List ℕ) → (book_verdict_up_to fewer book).answer ≡ TAKEN → ReadAlike fewer more book
  what_reads_is_read_alike book accepted = few_lists_are_read_alike book (taken_few fewer book accepted)

-- A limit shows nothing of bytes whose contents have more lists, whether or not they are a book
-- under a higher limit.
pub larger_book_shows_nothing : (most : ℕ) (book : List ℕ) → most < lists_in book → ShowsNothing most book
larger_book_shows_nothing most book larger = record {
  opening = many_opened most book larger;
  at_a_position = many_found most book larger;
  under_a_tag = many_tag most book larger;
  lists_of_a_reader = no_lists most book (many_refused_lem most book larger);
  body_of_a_reader = no_body most book (many_refused_lem most book larger);
  output_of_questions = many_unasked most book larger;
  pages_of_questions = many_asked most book larger;
  printing_long = prints_long most book;
  printing_contents = λ short. prints_contents most book short larger;
}

-- Above 61,440 bytes the program prints LONG and nothing else under any limit, whatever the bytes
-- are. So no other check comes before that.
pub longer_book_prints_long : (most : ℕ) (book : List ℕ) → MOST_BYTES < length book → printed_up_to most book ≡ refusal_line LONG
longer_book_prints_long most book long = prints_long most book long

-- From entries for more lists than the limit:
module _ (most : ℕ) (entries list out : List ℕ) (larger : most < length (wanted entries)) where
  -- Nothing is written, whatever the words are,
  pub larger_book_is_not_written : written_output_up_to most entries list out ≡ out
  larger_book_is_not_written = many_unwritten most entries list larger out

  -- and whole entries with whole nodes draw CONTENTS.
  pub larger_book_is_contents_in_writing : length entries % WANTED_WORDS ≡ 0 → length list % NODE_WORDS ≡ 0
      → written_of_up_to most entries list out ≡ counted too_many 0
  larger_book_is_contents_in_writing whole full = many_answered most entries list larger whole full out

-- Writing and reading return each other. Under any limit up to the library's own:
module _ (most : ℕ) (within : most ≤ MOST_LISTS) where
  -- Accepted lists, given as 32-bit words, are written into a book if the output has room. It is a
  -- book under any limit that allows its lists, and reads back as the same entries and nodes.
  pub lists_come_back_under_each_limit : (entries list out : List ℕ) → All (λ n. n < 4294967296) entries → All (λ n. n < 4294967296) list
      → (check_wanted_up_to most entries list).answer ≡ TAKEN
      → let book = bytes_for entries list in
      length book ≤ length out
      → (written_of_up_to most entries list out ≡ counted taken (length book))
      × (written_output_up_to most entries list out ≡ written book out)
      × ((other : ℕ) → length (wanted entries) ≤ other → book_verdict_up_to other book ≡ taken)
      × (entries_from book ≡ entries)
      × (nodes_from book ≡ list)
  lists_come_back_under_each_limit entries list out tags words accepted room =
      let few = written_few most entries list accepted in
      let own = ap (λ v. v.answer) (sym (check_alike most MOST_LISTS entries list few (omega arith))) ∙ accepted in
      let back = words_return entries list out tags words own room in
      let same = written_alike most MOST_LISTS entries list few (omega arith) out in
      let lists = lists_back entries list own tags words in (
        same.0 ∙ back.0.0,
        same.1 ∙ back.0.1,
        λ other h. verdict_alike other MOST_LISTS (bytes_for entries list) (omega arith) (omega arith) ∙ back.1,
        back.2,
        back.3,
      )

  -- Bytes that read as a book are written back to the same bytes under any limit that allows its
  -- lists, if the output has room.
  pub book_comes_back_under_each_limit : (book out : List ℕ) → All (λ b. b < 256) book → (book_verdict_up_to most book).answer ≡ TAKEN
      → length book ≤ length out
      → (other : ℕ) → lists_in book ≤ other
      → (written_of_up_to other (entries_from book) (nodes_from book) out ≡ counted taken (length book))
      × (written_output_up_to other (entries_from book) (nodes_from book) out ≡ written book out)
  book_comes_back_under_each_limit book out bytes accepted room other h =
      let few = taken_few most book accepted in
      let own = ap (λ v. v.answer) (sym (verdict_alike most MOST_LISTS book few (omega arith))) ∙ accepted in
      let lists = lists_read book own in
      let back = book_returns book out bytes own room in
      let same = written_alike other MOST_LISTS (entries_from book) (nodes_from book) (omega arith) (omega arith) out in
      (same.0 ∙ back.0, same.1 ∙ back.1)

-- An earlier program is one that differs from the library in this limit alone, as version 5 does.
-- What it writes, the library writes alike,
pub earlier_lists_are_written_alike : (entries list out : List ℕ) → (check_wanted_up_to EARLIER_LISTS entries list).answer ≡ TAKEN
    → WrittenAlike EARLIER_LISTS MOST_LISTS entries list out
earlier_lists_are_written_alike entries list out accepted =
    what_was_written_is_written_alike EARLIER_LISTS MOST_LISTS (omega arith) entries list out accepted

-- what it reads, the library reads alike,
pub earlier_books_are_read_alike : (book : List ℕ) → (book_verdict_up_to EARLIER_LISTS book).answer ≡ TAKEN → ReadAlike EARLIER_LISTS MOST_LISTS book
earlier_books_are_read_alike book accepted = what_reads_is_read_alike EARLIER_LISTS MOST_LISTS (omega arith) book accepted

-- and it shows nothing of a book with more lists.
pub larger_book_shows_nothing_to_earlier_programs : (book : List ℕ) → EARLIER_LISTS < lists_in book → ShowsNothing EARLIER_LISTS book
larger_book_shows_nothing_to_earlier_programs book larger = larger_book_shows_nothing EARLIER_LISTS book larger
