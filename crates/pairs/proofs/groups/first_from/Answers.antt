-- Function: `first_from` (src/groups.rt).
-- Why it holds: At each turn, the search along what is left of the stretch finds what the search
-- along all of it finds.
-- Measure: `to - k`, the words of the stretch still to search.
-- What would break it: A follower that is passed although it starts late enough, or a word one off,
-- would be caught at the next turn.
use Prim.Native.Nat.{◌+◌, ◌/◌}
use mathlib.Core.Path.{◌≡◌, refl, ◌∙◌}
use native.Mathlib.Omega.{arith}
use Rattle.laws.specs.Choose.{first_at}
use Rattle.pairs.specs.Private.Sweep.{stretch, starts_from}
use Rattle.pairs.proofs.Stretches.{first_zero, start_found, start_later, start_none}
use Rattle.pairs.proofs.groups.first_from.Goals as goal

pub returns-then-start-eq0 : goal.returns-then-start-eq0
returns-then-start-eq0 c =
    let a = c.args in
    let p = c.requires in
    let z : first_at (starts_from a.start) (stretch a.followers.now a.from a.to) ≡ 0 = rw c.if-start-eq0.true (first_zero _) in
    record { aligned = omega arith; index = omega arith }

pub loop-k-init : goal.loop-k-init
loop-k-init c = let p = c.requires in (p.0, omega arith, refl)

pub returns-then-start-node_from : goal.returns-then-start-node_from
returns-then-start-node_from c =
    let a = c.args in
    let p = c.requires in
    let l = c.loop-k in
    record {
      aligned = omega arith;
      index = start_found a.followers.now l.k a.to a.start _ l.invariant.0 p.1 l.invariant.2 _ (omega arith) c.node_from.ensures (omega arith);
    }

pub loop-k-preserved : goal.loop-k-preserved
loop-k-preserved c =
    let a = c.args in
    let p = c.requires in
    let l = c.loop-k in (
      (omega arith, omega arith, omega arith),
      omega arith,
      start_later a.followers.now l.k a.to a.start _ l.invariant.0 p.1 l.invariant.2 _ (omega arith) c.node_from.ensures (omega arith),
    )

pub returns-else-start-eq0 : goal.returns-else-start-eq0
returns-else-start-eq0 c =
    let a = c.args in
    let p = c.requires in
    let l = c.loop-k in
    let e : a.to / 4 ≡ l.k / 4 = omega (arith, l.invariant.1) in
    record { aligned = omega arith; index = e ∙ start_none a.followers.now l.k a.to a.start _ l.invariant.0 p.1 l.invariant.2 (omega arith) }

pub returns-else-start-node_from : goal.returns-else-start-node_from
returns-else-start-node_from c =
    let a = c.args in
    let p = c.requires in
    let l = c.loop-k in
    let e : a.to / 4 ≡ (l.k + 4) / 4 = omega (arith, l.invariant.0, l.invariant.1) in
    let later = start_later a.followers.now l.k a.to a.start _ l.invariant.0 p.1 l.invariant.2 _ (omega arith) c.node_from.ensures (omega arith) in
    record {
      aligned = omega arith;
      index = e ∙ start_none a.followers.now (l.k + 4) a.to a.start _ (omega arith, omega arith, omega (arith, p.1)) p.1 later (omega (arith, l.invariant.0));
    }
