-- The invariant of `tag_at`; Answers.antt says why it holds.
use mathlib.Core.Path.{◌≡◌}
use mathlib.Core.List.{List}
use Prim.Native.Nat.{ℕ, ◌+◌}
use lib.ListN.{take, drop}
use Rattle.contents.specs.Contents.{entries_in}
use Rattle.books.specs.Find.{tag_at}
use Rattle.books.proofs.find.tag_at.Given as goal

-- The index plus the tag's place among the rest is the tag's place.
abbrev pub Sought : List ℕ → ℕ → ℕ → ℕ → Type 0
Sought book lists tag i =
    i + tag_at tag (drop i (take lists (entries_in book))) ≡ tag_at tag (take lists (entries_in book))

abbrev pub invariant-loop-index : goal.invariant-loop-index
invariant-loop-index l = Sought l.book l.lists l.tag l.index
