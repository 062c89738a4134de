-- Function: `past_steps` (src/ancestors.rt).
-- Why it holds: At each turn, the run goes on up to here. An ancestor that is open at the last
-- descendant of a step is open at all of it.
-- Measure: `length descendants + STEP - k`, the words of the descendants still to come and one step
-- more.
-- What would break it: A step taken without a test, or one that tests a descendant before its
-- last, would be caught at the next turn.
use borrow.Author.Rules.{rules}
use Prim.Native.Nat.{◌+◌, ◌-◌}
use mathlib.Core.Path.{sym, ◌∙◌}
use native.Mathlib.Omega.{arith}
use Rattle.pairs.proofs.Running.{further_none, further_next, further_trans}
use Rattle.pairs.proofs.ancestors.past_steps.Goals as goal

pub loop-ancestor-init : goal.loop-ancestor-init
loop-ancestor-init g c =
    let a = c.args in
    let p = c.requires in
    further_none a.descendants.now a.ancestor a.from p.3 p.4

pub overflow_add-k : goal.overflow_add-k
overflow_add-k g c = let i = c.loop-ancestor.invariant.2.from_in in let p = c.requires.1 in search rules

pub is_running-requires : goal.is_running-requires
is_running-requires g c = let i = c.loop-ancestor.invariant.0 in (c.requires.4.whole, omega (arith, c.requires.2))

pub overflow_add-k-in-loop-ancestor : goal.overflow_add-k-in-loop-ancestor
overflow_add-k-in-loop-ancestor g c = let i = c.loop-ancestor.invariant.2.from_in in let p = c.requires.1 in search rules

pub loop-ancestor-smaller : goal.loop-ancestor-smaller
loop-ancestor-smaller g c = let i = c.loop-ancestor.invariant.2.from_in in let w = c.loop-ancestor.invariant.2.whole in omega (arith, c.requires.0)

pub loop-ancestor-preserved : goal.loop-ancestor-preserved
loop-ancestor-preserved g c =
    let a = c.args in
    let l = c.loop-ancestor in
    let i = l.invariant in
    let s = g.row.STEP in
    further_trans a.descendants.now a.ancestor a.from l.k (l.k + s) i
    (further_next a.descendants.now a.ancestor l.k (l.k + s - 4) (l.k + s) i.0 (omega (arith, i.0, c.requires.2)) (omega (arith, c.requires.0, c.requires.2)) (omega (arith, c.requires.0, c.requires.2)) i.2
    (sym c.is_running.ensures ∙ c.loop-ancestor-test.true))

pub returns : goal.returns
returns g c = record { further = c.loop-ancestor.invariant; stops = sym c.is_running.ensures ∙ c.loop-ancestor-test.false }
