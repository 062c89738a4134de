-- The invariant of `put_group`; Answers.antt says why it holds.
use Prim.Native.Nat.{◌+◌, ◌≤◌}
use mathlib.Core.Path.{◌≡◌}
use lib.ListN.{length, drop}
use Rattle.nodes.specs.Words.{nodes, count}
use Rattle.pairs.specs.Private.Sweep.{served_group}
use Rattle.pairs.proofs.groups.put_group.Given as goal

abbrev pub invariant-loop-k : goal.invariant-loop-k
invariant-loop-k l =
    (l.k ≤ count l.followers) × (length l.out ≡ length l.initial.out)
    × (served_group l.order l.out (l.written + l.k) l.leader (drop l.k (nodes l.followers)) ≡ served_group l.order l.initial.out l.written l.leader (nodes l.followers))
