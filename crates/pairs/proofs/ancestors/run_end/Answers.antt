-- Function: `run_end` (src/ancestors.rt).
-- Why it holds: The first descendant is in the run, and each step continues from a place up to
-- which the run goes. The run ends at the first place where it doesn't go on.
-- What would break it: A place returned that was not tested, or one after which the run goes on,
-- would be caught at its return.
use Prim.Native.Nat.{ℕ, ◌+◌, ◌/◌, ◌%◌}
use mathlib.Core.Path.{◌≡◌, sym, ◌∙◌}
use mathlib.Core.Bool.{true}
use mathlib.Core.List.{List}
use native.Mathlib.Omega.{arith}
use Rattle.nodes.specs.declared.node.Node.{Node}
use Rattle.pairs.specs.Private.Sweep.{Running, Further, runningb}
use Rattle.pairs.proofs.Running.{further_next, further_trans, further_stops}
use Rattle.pairs.proofs.ancestors.run_end.Goals as goal

-- The second descendant is in the run, and so is the one before which the guess ends.
module _ (ws : List ℕ) (a : Node) (from : ℕ) (even : from % 4 ≡ 0) (run : Running ws a (from / 4))
    (second : runningb ws a ((from + 4) / 4) ≡ true) where
  second_in : Further ws a from (from + 4 + 4)
  second_in = further_next ws a from (from + 4) (from + 4 + 4) even (omega (arith, even)) (omega arith) (omega arith) run second

  near_in : (near : ℕ) → Further ws a (from + 4 + 4) near → runningb ws a (near / 4) ≡ true → Further ws a from (near + 4)
  near_in near g o =
      further_trans ws a from near (near + 4)
      (further_trans ws a from (from + 4 + 4) near second_in g)
      (further_next ws a near near (near + 4) g.0 g.0 (omega arith) (omega arith) g.2 o)

pub returns-then-not-is_running : goal.returns-then-not-is_running
returns-then-not-is_running c =
    let a = c.args in
    let p = c.requires in
    let f = further_next a.descendants.now a.ancestor a.from a.from (a.from + 4) p.0 p.0 (omega arith) (omega arith) p.2 p.3 in
    record {
      aligned = f.0;
      index = further_stops a.descendants.now a.ancestor a.from (a.from + 4) f (sym c.is_running.ensures ∙ c.if-not-is_running.true);
    }

pub past_guess-near-requires : goal.past_guess-near-requires
past_guess-near-requires c =
    let a = c.args in
    let p = c.requires in
    let g = second_in a.descendants.now a.ancestor a.from p.0 p.2 (sym c.is_running.ensures ∙ c.if-not-is_running.false) in
    (g.0, p.1, g.2)

pub returns-then-not-is_running-2 : goal.returns-then-not-is_running-2
returns-then-not-is_running-2 c =
    let a = c.args in
    let p = c.requires in
    let g = second_in a.descendants.now a.ancestor a.from p.0 p.2 (sym c.is_running.ensures ∙ c.if-not-is_running.false) in
    let f = further_trans a.descendants.now a.ancestor a.from (a.from + 4 + 4) _ g c.past_guess-near.ensures in
    record {
      aligned = f.0;
      index = further_stops a.descendants.now a.ancestor a.from _ f (sym c.is_running-2.ensures ∙ c.if-not-is_running-2.true);
    }

pub past_run-requires : goal.past_run-requires
past_run-requires c =
    let a = c.args in
    let p = c.requires in
    let f = near_in a.descendants.now a.ancestor a.from p.0 p.2 (sym c.is_running.ensures ∙ c.if-not-is_running.false)
    _ c.past_guess-near.ensures (sym c.is_running-2.ensures ∙ c.if-not-is_running-2.false) in
    (f.0, f.2)

pub returns : goal.returns
returns c =
    let a = c.args in
    let p = c.requires in
    let f = near_in a.descendants.now a.ancestor a.from p.0 p.2 (sym c.is_running.ensures ∙ c.if-not-is_running.false)
    _ c.past_guess-near.ensures (sym c.is_running-2.ensures ∙ c.if-not-is_running-2.false) in
    let e = c.past_run.ensures in
    record { aligned = e.aligned; index = e.index ∙ f.3 }
