-- The invariant of `put_tag`; Answers.antt says why they hold.
use mathlib.Core.Path.{◌≡◌}
use mathlib.Core.List.{List}
use Prim.Native.Nat.{ℕ}
use lib.ListN.{length}
use Rattle.nodes.specs.Words.{words_of}
use Rattle.answers.specs.Output.{words_in, written}
use Rattle.marks.proofs.Picking.{firsts_with}
use Rattle.marks.proofs.pick.put_tag.Given as goal

-- The first rows' nodes with the tag are written, and no more.
pub record Puts (tag : ℕ) (table out₀ : List ℕ) (index found : ℕ) (out : List ℕ) : Type 0 where
  pub few : found ≡ length (firsts_with tag table index)
  pub same : length out ≡ length out₀
  pub output : out ≡ written (words_in words_of (firsts_with tag table index)) out₀

abbrev pub invariant-loop-index : goal.invariant-loop-index
invariant-loop-index l = Puts l.tag l.table l.initial.out l.index l.found l.out
