-- The invariant of `put_numbers`; Answers.antt says why it holds.
use mathlib.Core.Path.{◌≡◌}
use mathlib.Core.List.{List}
use Prim.Native.Nat.{ℕ, ◌+◌, ◌*◌}
use lib.ListN.{length, drop}
use lib.Seq.{sets}
use Rattle.answers.specs.Output.{words_in}
use Rattle.numbers.specs.Little.{bytes_of}
use Rattle.writing.proofs.put.put_numbers.Given as goal

-- The words from an index on, stored from there on, give what all words give, stored from the start
-- on.
pub record Puts (words : List ℕ) (out₀ : List ℕ) (from index : ℕ) (out : List ℕ) : Type 0 where
  pub same : length out ≡ length out₀
  pub whole : sets out (4 * (from + index)) (words_in bytes_of (drop index words)) ≡ sets out₀ (4 * from) (words_in bytes_of words)

abbrev pub invariant-loop-index : goal.invariant-loop-index
invariant-loop-index l = Puts l.words l.initial.out l.from l.index l.out
