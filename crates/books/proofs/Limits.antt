-- Why it holds: Only one rule of the contents speaks of the limit. A book with more lists breaks
-- it, whatever else is in its bytes. Under two limits that a book is within, all else is the same.
-- What would break it: A list shown before the contents are checked, or a second place that asks
-- about the limit, would be caught here.
use mathlib.Core.Path.{◌≡◌, ap}
use mathlib.Core.Logic.{inl, inr}
use mathlib.Core.List.{List, map}
use Prim.Native.Nat.{ℕ, ◌≤◌, ◌<◌}
use native.Mathlib.Omega.{arith}
use lib.Dec.{ltb}
use borrow.Author.Tests.{ltb-true, ltb-false}
use Rattle.answers.specs.Answer.{TAKEN, CONTENTS}
use Rattle.answers.specs.Verdict.{ANCESTORS, verdict, refusedb}
use Rattle.laws.proofs.Tests.{either}
use Rattle.contents.specs.Contents.{lists_in, contents_of}
use Rattle.contents.proofs.ContentLaws.{fault_many, fault_alike}
use Rattle.books.specs.Book.{nodes_of, check_parts, book_verdict_up_to, opened, check_book_up_to}
use Rattle.books.specs.Find.{found, verdict_at_up_to, found_at_up_to, found_tag_up_to}

-- A book with more lists than the limit:
module _ (most : ℕ) (book : List ℕ) (h : most < lists_in book) where
  pub many_verdict : book_verdict_up_to most book ≡ verdict CONTENTS ANCESTORS 0
  unfolding book_verdict_up_to check_parts
  many_verdict = rw (fault_many book most h)

  pub many_refused_lem : (book_verdict_up_to most book).answer ≡ TAKEN → ⊥
  many_refused_lem t = let e = ap (λ v. v.answer) many_verdict in omega arith

  pub many_opened : check_book_up_to most book ≡ opened (verdict CONTENTS ANCESTORS 0) 0
  unfolding check_book_up_to refusedb
  many_opened = rw many_verdict

  pub many_at : (position : ℕ) → verdict_at_up_to most book position ≡ verdict CONTENTS ANCESTORS 0
  unfolding verdict_at_up_to refusedb
  many_at position = rw many_verdict

  pub many_found : (position : ℕ) → found_at_up_to most book position ≡ found (verdict CONTENTS ANCESTORS 0) 0 0
  unfolding found_at_up_to refusedb
  many_found position = rw (many_at position)

  pub many_tag : (tag : ℕ) → found_tag_up_to most book tag ≡ found (verdict CONTENTS ANCESTORS 0) 0 0
  unfolding found_tag_up_to
  many_tag tag = many_found _

-- So a book that is taken has no more lists than the limit.
pub taken_few : (most : ℕ) (book : List ℕ) → (book_verdict_up_to most book).answer ≡ TAKEN → lists_in book ≤ most
taken_few most book t =
    elim (either (ltb most (lists_in book))) [
      | inl h ↦ absurd (many_refused_lem most book (ltb-true _ _ h) t)
      | inr h ↦ ltb-false _ _ h
    ]

-- A book that is within two limits:
module _ (fewer more : ℕ) (book : List ℕ) (h : lists_in book ≤ fewer) (k : lists_in book ≤ more) where
  pub verdict_alike : book_verdict_up_to fewer book ≡ book_verdict_up_to more book
  unfolding book_verdict_up_to
  verdict_alike = ap (λ fault. check_parts fault (map (nodes_of book) (contents_of book))) (fault_alike book fewer more h k)

  pub opened_alike : check_book_up_to fewer book ≡ check_book_up_to more book
  unfolding check_book_up_to
  opened_alike = rw verdict_alike

  pub at_alike : (position : ℕ) → verdict_at_up_to fewer book position ≡ verdict_at_up_to more book position
  unfolding verdict_at_up_to
  at_alike position = rw verdict_alike

  pub found_alike : (position : ℕ) → found_at_up_to fewer book position ≡ found_at_up_to more book position
  unfolding found_at_up_to
  found_alike position = rw (at_alike position)

  pub tag_alike : (tag : ℕ) → found_tag_up_to fewer book tag ≡ found_tag_up_to more book tag
  unfolding found_tag_up_to
  tag_alike tag = found_alike _
