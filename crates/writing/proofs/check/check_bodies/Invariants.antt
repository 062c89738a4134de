-- The invariant of `check_bodies`; Answers.antt says why it holds.
use mathlib.Core.Path.{◌≡◌}
use mathlib.Core.Bool.{true}
use mathlib.Core.List.{List}
use Prim.Native.Nat.{ℕ, ◌+◌, ◌*◌}
use lib.ListN.{length, drop}
use Rattle.nodes.specs.Words.{nodes}
use Rattle.contents.specs.Contents.{contents_end, laidb}
use Rattle.books.specs.Book.{check_bodies}
use Rattle.writing.specs.Wanted.{wanted, laid_out, bodies_for}
use Rattle.writing.proofs.check.check_bodies.Given as goal

-- Where the bodies start.
abbrev pub start : List ℕ → ℕ
start entries = contents_end (length (wanted entries))

-- The verdict on the bodies from an index on, out of the words from a place on, is the verdict on
-- all; the bodies end where the words do.
pub record Checks (entries list : List ℕ) (from index : ℕ) : Type 0 where
  pub fit : laidb (start entries + 4 * from) (laid_out (start entries + 4 * from) (drop index (wanted entries))) (start entries + 4 * length list)
      ≡ true
  pub left : check_bodies index (bodies_for (drop index (wanted entries)) (nodes (drop from list)))
      ≡ check_bodies 0 (bodies_for (wanted entries) (nodes list))

abbrev pub invariant-loop-index : goal.invariant-loop-index
invariant-loop-index l = Checks l.entries l.list l.from l.index
