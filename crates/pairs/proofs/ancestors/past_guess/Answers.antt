-- Function: `past_guess` (src/ancestors.rt).
-- Why it holds: If the ancestor is open at a descendant next to the guess, it is open at all before
-- it. Without such a descendant the place stays.
-- What would break it: A guess that is taken without a test would be caught at its return.
use Prim.Native.Nat.{◌-◌}
use mathlib.Core.Path.{sym, ◌∙◌}
use native.Mathlib.Omega.{arith}
use Rattle.pairs.proofs.Running.{further_next}
use Rattle.pairs.proofs.ancestors.past_guess.Goals as goal

pub returns-then-is_running : goal.returns-then-is_running
returns-then-is_running c =
    let a = c.args in
    let p = c.requires in
    further_next a.descendants.now a.ancestor a.from (a.guess - 4) a.guess p.0 (omega arith) (omega arith) (omega arith) p.2
    (sym c.is_running.ensures ∙ c.if-is_running.true)

pub returns-then-is_running-2 : goal.returns-then-is_running-2
returns-then-is_running-2 c =
    let a = c.args in
    let p = c.requires in
    further_next a.descendants.now a.ancestor a.from (a.guess - 8) (a.guess - 4) p.0 (omega arith) (omega arith) (omega arith) p.2
    (sym c.is_running-2.ensures ∙ c.if-is_running-2.true)
