-- Why it holds: Of an accepted book everything is kept, and a tag's body is the part that the
-- search by tag finds. Of a refused book nothing is kept.
-- What would break it: A body of a list that the book doesn't have, or of bytes that are no book,
-- would be caught here.
use mathlib.Core.Path.{◌≡◌, refl, ap, ◌∙◌}
use mathlib.Core.Logic.{inl, inr}
use mathlib.Core.List.{List, []}
use Prim.Native.Nat.{ℕ, ◌<◌, ◌≤◌}
use native.Mathlib.Omega.{arith}
use lib.Dec.{ltb}
use lib.ListN.{get_or, take, get_or-eq_default}
use lib.Seq.{get_or-take}
use borrow.Author.Tests.{ltb-true, ltb-false}
use Rattle.answers.specs.Answer.{TAKEN}
use Rattle.laws.specs.Choose.{first_at}
use Rattle.laws.proofs.Tests.{either}
use Rattle.numbers.specs.Little.{numbers, number_at}
use Rattle.numbers.specs.Part.{part_of}
use Rattle.contents.specs.Contents.{entry, lists_in, entries_in, contents_of, entry_at}
use Rattle.contents.proofs.ContentLaws.{few_entries}
use Rattle.books.specs.Book.{body_of, book_verdict_up_to, book_verdict}
use Rattle.books.specs.Find.{tag_at, found_at, found_tag_up_to, found_tag, tag_entry, tag_body}
use Rattle.answers.proofs.VerdictLaws.{refuses, accepts}
use Rattle.books.proofs.FindLaws.{list_absent, list_found, tag_body_at}
use Rattle.books.proofs.Limits.{verdict_alike}
use Rattle.readers.specs.Reader.{kept_of_up_to, kept_of, kept_lists_up_to, kept_lists, kept_body_up_to, kept_body, kept_place_up_to}

-- Of a book that is refused under a limit nothing is kept.
module _ (most : ℕ) (book : List ℕ) (bad : (book_verdict_up_to most book).answer ≡ TAKEN → ⊥) where
  pub kept_nothing : kept_of_up_to most book ≡ []
  unfolding kept_of_up_to
  kept_nothing = rw (refuses (book_verdict_up_to most book) bad)

  pub no_lists : kept_lists_up_to most book ≡ 0
  unfolding kept_lists_up_to lists_in number_at numbers
  no_lists = ap lists_in kept_nothing

  pub no_body : (tag : ℕ) → kept_body_up_to most book tag ≡ []
  unfolding kept_body_up_to tag_body tag_entry body_of part_of tag_at first_at
  no_body tag = rw (kept_nothing, no_lists) refl

module _ (book : List ℕ) (ok : (book_verdict book).answer ≡ TAKEN) where
  pub kept_whole : kept_of book ≡ book
  unfolding kept_of_up_to
  kept_whole = rw (accepts (book_verdict book) ok)

  pub all_lists : kept_lists book ≡ lists_in book
  unfolding kept_lists_up_to
  all_lists = ap lists_in kept_whole

  -- The body at a position among the book's own entries is the part that the search by position
  -- finds, empty where the book has fewer lists.
  module _ (position : ℕ) where
    abbrev Answered : Type 0
    Answered = body_of book (get_or (contents_of book) position (entry 0 0 0)) ≡ part_of book (found_at book position).from (found_at book position).bytes

    there : position < lists_in book → Answered
    unfolding contents_of entry_at body_of
    there h = rw (list_found book position ok h, get_or-take (lists_in book) (entries_in book) position (entry 0 0 0) h) refl

    past : lists_in book ≤ position → Answered
    unfolding contents_of body_of
    past h =
        let few = few_entries book (lists_in book) in
        let e = get_or-eq_default (take (lists_in book) (entries_in book)) (entry 0 0 0) {n = position} (omega arith) in
        rw (list_absent book position ok h, e) refl

    answered : Answered
    answered = elim (either (ltb position (lists_in book))) [ inl h ↦ there (ltb-true _ _ h) | inr h ↦ past (ltb-false _ _ h) ]

  pub body_found : (tag : ℕ) → kept_body book tag ≡ part_of book (found_tag book tag).from (found_tag book tag).bytes
  unfolding kept_body_up_to kept_lists_up_to tag_body tag_entry found_tag_up_to contents_of
  body_found tag = rw kept_whole (answered (tag_at tag (contents_of book)))

  -- A tag's body is the one in the whole book, with all its lists.
  pub kept_tag : (tag : ℕ) → kept_body book tag ≡ tag_body book (lists_in book) tag
  unfolding kept_body_up_to
  kept_tag tag = rw (kept_whole, all_lists) refl

  -- So each list's body comes back under its own tag.
  pub body_at : (position : ℕ) → position < lists_in book → kept_body book (entry_at book position).tag ≡ body_of book (entry_at book position)
  body_at position h = kept_tag (entry_at book position).tag ∙ tag_body_at book ok position h

-- Under two limits that the book is within, the same is kept.
module _ (fewer more : ℕ) (book : List ℕ) (h : lists_in book ≤ fewer) (k : lists_in book ≤ more) where
  kept_alike : kept_of_up_to fewer book ≡ kept_of_up_to more book
  unfolding kept_of_up_to
  kept_alike = rw (verdict_alike fewer more book h k)

  pub lists_alike : kept_lists_up_to fewer book ≡ kept_lists_up_to more book
  unfolding kept_lists_up_to
  lists_alike = ap lists_in kept_alike

  pub body_alike : (tag : ℕ) → kept_body_up_to fewer book tag ≡ kept_body_up_to more book tag
  unfolding kept_body_up_to
  body_alike tag = rw (kept_alike, lists_alike) refl

  pub place_alike : (start : ℕ × ℕ) (tag : ℕ) → kept_place_up_to fewer book start tag ≡ kept_place_up_to more book start tag
  unfolding kept_place_up_to
  place_alike start tag = rw (kept_alike, lists_alike) refl
