-- Why it holds: A book that was written reads back as the lists wanted. In a book each list is
-- found under its own tag. So under the tag of each entry lies the list that was written for it.
-- What would break it: A body that lay under another list's tag would be caught here.
use mathlib.Core.Path.{◌≡◌, sym, ap, ◌∙◌}
use mathlib.Core.List.{List}
use Prim.Native.Nat.{ℕ, ◌<◌}
use native.Mathlib.Omega.{arith}
use lib.ListN.{length, get_or}
use Rattle.nodes.specs.declared.node.Node.{Node}
use Rattle.answers.specs.Answer.{TAKEN}
use Rattle.laws.specs.Choose.{All}
use Rattle.nodes.specs.Words.{nodes}
use Rattle.numbers.specs.Little.{numbers}
use Rattle.contents.specs.Contents.{entry, lists_in, contents_of, entry_at, contents_fault}
use Rattle.contents.proofs.ContentLaws.{count_contents, entry_of}
use Rattle.books.specs.Book.{nodes_of, book_verdict}
use Rattle.books.specs.Find.{tag_body}
use Rattle.books.proofs.FindLaws.{book_faultless, tag_body_at}
use Rattle.laws.proofs.Choices.{map_there}
use Rattle.writing.specs.declared.wanted.Wanted.{Wanted}
use Rattle.writing.specs.Back.{wanted_in, bodies_in}
use Rattle.writing.specs.Wanted.{want, wanted, bodies_for}
use Rattle.writing.specs.WriteCall.{check_wanted, bytes_for}
use Rattle.writing.proofs.Returned.{written_taken, lists_back, wanted_back, bodies_back}
use Rattle.writing.proofs.Rules.{Small}

module _ (entries list : List ℕ) (t : (check_wanted entries list).answer ≡ TAKEN) (small : All Small entries) (words : All Small list)
    (position : ℕ) (h : position < length (wanted entries)) where
  abbrev book : List ℕ
  book = bytes_for entries list

  taken_book : (book_verdict book).answer ≡ TAKEN
  taken_book = ap (λ v. v.answer) (written_taken entries list t small words)

  good : contents_fault book ≡ TAKEN
  good = book_faultless book taken_book

  there : (position < lists_in book) × (position < length (contents_of book))
  there =
      let l = lists_back entries list t small words in
      let c = count_contents book good in
      (omega arith, omega arith)

  own_entry : get_or (contents_of book) position (entry 0 0 0) ≡ entry_at book position
  own_entry = entry_of book good position there.0

  same_tag : (w : Wanted) → (get_or (wanted entries) position w).tag ≡ (entry_at book position).tag
  unfolding wanted_in
  same_tag w =
      ap (λ ws. (get_or ws position w).tag) (sym (wanted_back entries list t small words))
      ∙ ap (λ v. v.tag) (map_there (λ e. want e.tag e.count) (contents_of book) position there.1 (entry 0 0 0) w)
      ∙ ap (λ e. e.tag) own_entry

  same_body : (ns : List Node) → nodes_of book (entry_at book position) ≡ get_or (bodies_for (wanted entries) (nodes list)) position ns
  unfolding bodies_in
  same_body ns =
      ap (nodes_of book) (sym own_entry)
      ∙ sym (map_there (nodes_of book) (contents_of book) position there.1 (entry 0 0 0) ns)
      ∙ ap (λ bs. get_or bs position ns) (bodies_back entries list t small words)

  pub written_found : (w : Wanted) (ns : List Node)
      → nodes (numbers (tag_body book (lists_in book) (get_or (wanted entries) position w).tag))
      ≡ get_or (bodies_for (wanted entries) (nodes list)) position ns
  unfolding nodes_of
  written_found w ns =
      ap (λ tag. nodes (numbers (tag_body book (lists_in book) tag))) (same_tag w)
      ∙ ap (λ b. nodes (numbers b)) (tag_body_at book taken_book position there.0)
      ∙ same_body ns
