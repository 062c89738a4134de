-- Function: `past_run` (src/ancestors.rt).
-- Why it holds: Strides go on within the run, and single steps go on to the first place at which
-- the ancestor isn't open. That is the run's end.
-- What would break it: A place at which the run goes on would be caught at the return.
use native.Mathlib.Omega.{arith}
use Prim.Native.Nat.{◌+◌, ◌-◌, ◌/◌}
use mathlib.Core.Path.{◌≡◌, subst}
use mathlib.Core.Bool.{false}
use Rattle.pairs.specs.Private.Sweep.{runningb}
use Rattle.pairs.proofs.Running.{further_trans, further_stops}
use Rattle.pairs.proofs.ancestors.past_run.Goals as goal

pub past_steps-far-requires : goal.past_steps-far-requires
past_steps-far-requires c = (omega arith, omega arith, omega arith, c.requires.0, c.requires.1)

pub past_steps-requires : goal.past_steps-requires
past_steps-requires c =
    let f = c.past_steps-far.ensures.further in
    (omega arith, omega arith, omega arith, f.0, f.2)

pub returns : goal.returns
returns c =
    let a = c.args in
    let e = c.past_steps.ensures in
    let f = further_trans a.descendants.now a.ancestor a.from _ _ c.past_steps-far.ensures.further e.further in
    let here : c.past_steps.result + 4 - 4 ≡ c.past_steps.result = omega arith in
    let stops = subst (λ k. runningb a.descendants.now a.ancestor (k / 4) ≡ false) here e.stops in
    record { aligned = f.0; index = further_stops a.descendants.now a.ancestor a.from _ f stops }
