-- The invariant of `pass_contents`; Answers.antt says why it holds.
use mathlib.Core.List.{List}
use Prim.Native.Nat.{ℕ}
use lib.ListN.{take, drop}
use Rattle.contents.specs.declared.step.ContentsPlace.{ContentsPlace}
use Rattle.contents.specs.Contents.{entries_in}
use Rattle.contents.specs.Passing.{start_of}
use Rattle.contents.proofs.ContentLaws.{Left}
use Rattle.contents.proofs.check.pass_contents.Given as goal

abbrev Passed : List ℕ → ℕ → ℕ → ContentsPlace → Type 0
Passed book lists i p = Left p (drop i (take lists (entries_in book))) (start_of lists) (take lists (entries_in book))

abbrev pub invariant-loop-index : goal.invariant-loop-index
invariant-loop-index l = Passed l.book l.lists l.index l.place
