-- Function: `body_of` (src/book.rt).
-- Why it holds: The body is the part of the book from the entry's offset on, with sixteen bytes for
-- each of its nodes. It lies where that part lies.
-- What would break it: A part one byte off, or with one byte for each node, would be caught at the
-- return.
use mathlib.Core.Path.{◌≡◌}
use mathlib.Core.List.{List}
use Prim.Native.Nat.{ℕ, ◌*◌}
use Rattle.numbers.specs.Little.{NODE_BYTES}
use lib.ListN.{length}
use Rattle.numbers.specs.Part.{part_of, place_in}
use Rattle.contents.specs.declared.entry.Entry.{Entry}
use Rattle.books.specs.Book.{body_of, body_place}
use Rattle.books.proofs.book.body_of.Goals as goal

part : (book : List ℕ) (e : Entry) (r : List ℕ) → r ≡ part_of book e.offset (NODE_BYTES * e.count) → r ≡ body_of book e
unfolding body_of
part book e r h = h

place : (start : ℕ × ℕ) (book : List ℕ) (e : Entry) (at : ℕ × ℕ) → at ≡ place_in start (length book) e.offset → at ≡ body_place start book e
unfolding body_place
place start book e at h = h

pub returns : goal.returns
returns c = record { contents = part _ _ _ c.part_of.ensures.contents; place = place _ _ _ _ c.part_of.ensures.place }
