-- The invariant of `pass_wanted`; Answers.antt says why it holds.
use mathlib.Core.List.{List}
use Prim.Native.Nat.{ℕ, ◌+◌, ◌*◌, ◌≤◌}
use lib.ListN.{drop}
use Rattle.contents.specs.declared.step.ContentsPlace.{ContentsPlace}
use Rattle.contents.specs.Contents.{contents_end}
use Rattle.contents.specs.Passing.{start_of}
use Rattle.contents.proofs.ContentLaws.{Left}
use Rattle.writing.specs.Wanted.{wanted, laid_out, contents_for}
use Rattle.writing.proofs.check.pass_wanted.Given as goal

-- The first `index` lists of the entries are passed.
pub record Passed (entries : List ℕ) (lists index : ℕ) (p : ContentsPlace) : Type 0 where
  pub most : p.end ≤ contents_end lists + 65536 * index
  pub left : Left p (laid_out p.end (drop index (wanted entries))) (start_of lists) (contents_for (wanted entries))

abbrev pub invariant-loop-index : goal.invariant-loop-index
invariant-loop-index l = Passed l.entries l.lists l.index l.place
