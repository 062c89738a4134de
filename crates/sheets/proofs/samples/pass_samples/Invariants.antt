-- The invariant of `pass_samples`; Answers.antt says why it holds.
use mathlib.Core.Path.{◌≡◌}
use Prim.Native.Nat.{◌≤◌}
use lib.Seq.{slice}
use Rattle.nodes.specs.Words.{nodes, count}
use Rattle.sheets.specs.Private.Walk.{NoneAfter}
use Rattle.sheets.specs.Sheet.{lab_samples, subtotal_over}
use Rattle.sheets.proofs.samples.pass_samples.Given as goal

abbrev pub invariant-loop-next : goal.invariant-loop-next
invariant-loop-next l =
    (l.from ≤ l.next) × (l.next ≤ count l.samples) × NoneAfter l.samples l.limit l.next × (l.subtotal ≡ subtotal_over (slice l.from l.next (lab_samples (nodes l.samples) l.hundredths)))
