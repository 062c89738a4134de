-- The invariant and the measure of `print_pairs`; Answers.antt says why they hold.
use mathlib.Core.Path.{◌≡◌}
use lib.ListN.{length}
use Rattle.printing.proofs.Counting.{left, Counted}
use Rattle.printing.proofs.pages.print_pairs.Given as goal

abbrev pub invariant-loop-stdout : goal.invariant-loop-stdout
invariant-loop-stdout l =
    (length l.out ≡ length l.initial.out) × (length l.text ≡ length l.initial.text) × Counted l.ancestors l.descendants l.ticket l.count

abbrev pub decreases-loop-stdout : goal.decreases-loop-stdout
decreases-loop-stdout l = left l.ancestors l.descendants l.ticket
