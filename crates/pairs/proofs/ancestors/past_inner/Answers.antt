-- Function: `past_inner` (src/ancestors.rt).
-- Why it holds: More than one descendant is passed only where this one stands after the zone and
-- the zone is open at the next. Then what the zone holds is passed.
-- What would break it: A descendant that is passed although the zone doesn't hold it would be
-- caught at its return. A zone left early would only cost time.
use Prim.Native.Nat.{◌+◌}
use mathlib.Core.Path.{sym, ◌∙◌}
use native.Mathlib.Omega.{arith}
use Rattle.pairs.proofs.Children.{two_held, held}
use Rattle.pairs.proofs.Running.{further_trans}
use Rattle.pairs.proofs.ancestors.past_inner.Goals as goal

pub returns-then-to-k : goal.returns-then-to-k
returns-then-to-k c =
    let p = c.requires in
    record {
      zone_placed = p.1;
      zone_later = omega arith;
      next_placed = (omega arith, omega arith, omega arith);
      next_later = omega arith;
      held = λ j l m. absurd (omega arith);
    }

pub returns-then-not-is_after : goal.returns-then-not-is_after
returns-then-not-is_after c =
    let p = c.requires in
    record {
      zone_placed = p.1;
      zone_later = omega arith;
      next_placed = (omega arith, omega arith, omega arith);
      next_later = omega arith;
      held = λ j l m. absurd (omega arith);
    }

pub returns-then-not-is_running : goal.returns-then-not-is_running
returns-then-not-is_running c =
    let p = c.requires in
    record {
      zone_placed = (omega arith, omega arith, omega arith);
      zone_later = omega arith;
      next_placed = (omega arith, omega arith, omega arith);
      next_later = omega arith;
      held = λ j l m. absurd (omega arith);
    }

pub past_held-requires : goal.past_held-requires
past_held-requires c =
    let a = c.args in
    let p = c.requires in
    let f = two_held a.ancestors.now a.descendants.now p.0 a.zone a.k _ _ (omega arith) (omega arith)
    c.node_from-inner.ensures c.node_from.ensures (sym c.is_after.ensures ∙ c.if-not-is_after.false)
    p.2.1 (sym c.is_running.ensures ∙ c.if-not-is_running.false) in
    (f.0, p.4.1, f.2)

pub returns : goal.returns
returns c =
    let a = c.args in
    let p = c.requires in
    let after = sym c.is_after.ensures ∙ c.if-not-is_after.false in
    let two = two_held a.ancestors.now a.descendants.now p.0 a.zone a.k _ _ (omega arith) (omega arith)
    c.node_from-inner.ensures c.node_from.ensures after p.2.1 (sym c.is_running.ensures ∙ c.if-not-is_running.false) in
    let f = further_trans a.descendants.now _ (a.k + 4) (a.k + 4 + 4) _ two c.past_held.ensures in
    let i = f.2.from_in in
    record {
      zone_placed = (omega arith, omega arith, omega arith);
      zone_later = omega arith;
      next_placed = (p.2.0, f.0, omega arith);
      next_later = omega (arith, f.1);
      held = held a.ancestors.now a.descendants.now p.0 a.zone a.k _ _ (omega arith) (omega arith)
          c.node_from-inner.ensures c.node_from.ensures after _ f;
    }
