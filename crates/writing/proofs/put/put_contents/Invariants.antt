-- The invariant of `put_contents`; Answers.antt says why it holds.
use mathlib.Core.Path.{◌≡◌}
use mathlib.Core.List.{List}
use Prim.Native.Nat.{ℕ, ◌+◌, ◌*◌, ◌≤◌}
use lib.ListN.{length, drop}
use lib.Seq.{sets}
use Rattle.writing.specs.Wanted.{wanted}
use Rattle.writing.proofs.Putting.{laid_bytes}
use Rattle.writing.proofs.put.put_contents.Given as goal

-- The entries from an index on, stored from there on, give what all entries give, stored from the
-- start on.
pub record Puts (entries out₀ : List ℕ) (end₀ index end : ℕ) (out : List ℕ) : Type 0 where
  pub same : length out ≡ length out₀
  pub most : end ≤ end₀ + 65536 * index
  pub whole : sets out (4 * (1 + 3 * index)) (laid_bytes end (drop index (wanted entries))) ≡ sets out₀ 4 (laid_bytes end₀ (wanted entries))

abbrev pub invariant-loop-index : goal.invariant-loop-index
invariant-loop-index l = Puts l.entries l.initial.out l.initial.end l.index l.end l.out
