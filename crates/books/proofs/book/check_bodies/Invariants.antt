-- The invariant of `check_bodies`; Answers.antt says why it holds.
use mathlib.Core.Path.{◌≡◌}
use mathlib.Core.List.{List, map}
use Prim.Native.Nat.{ℕ}
use lib.ListN.{drop}
use Rattle.contents.specs.Contents.{contents_of}
use Rattle.answers.specs.declared.verdict.Verdict.{Verdict}
use Rattle.books.specs.Book.{nodes_of, check_bodies}
use Rattle.books.proofs.book.check_bodies.Given as goal

abbrev pub whole : List ℕ → Verdict
whole book = check_bodies 0 (map (nodes_of book) (contents_of book))

abbrev pub Checked : List ℕ → ℕ → Type 0
Checked book list = check_bodies list (map (nodes_of book) (drop list (contents_of book))) ≡ whole book

abbrev pub invariant-loop-list : goal.invariant-loop-list
invariant-loop-list l = Checked l.book l.list-counter
