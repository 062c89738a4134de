-- Function: `pass_run` (src/both.rt).
-- Why it holds: Before each turn, the run has come to a place of the list and has taken the walk
-- along both lists with it. Each turn passes one node. At the document's end the limit is reached,
-- since none is above PAST.
-- Measure: `length words - place.at`, the words of the list still to pass.
-- What would break it: A turn that passed no node, or one that passed a node from the limit on,
-- would be caught at the next turn.
use mathlib.Core.Path.{refl}
use mathlib.Core.Logic.{inr, ⊎_elim}
use native.Mathlib.Omega.{arith}
use Rattle.lists.proofs.Runs.{along_on, along_stop}
use Rattle.lists.proofs.both.pass_run.Goals as goal

pub loop-place-init : goal.loop-place-init
loop-place-init c =
    let p = c.requires in
    record { cut = p.0; ahead = p.1; most = p.2; held = p.3; on = omega arith; moved = inr refl; walked = λ rest whole draws alone w. w }

pub pass_next-requires : goal.pass_next-requires
pass_next-requires c =
    let i = c.loop-place.invariant in
    let m = i.most in
    (i.cut, i.ahead, omega arith, i.held)

pub returns-in_default : goal.returns-in_default
returns-in_default c =
    let x = c.args in
    let l = c.loop-place in
    record {
      moved = tt;
      walked = along_stop x.words.now x.document x.limit x.begun x.stack.now l.place l.stack l.invariant
          c.loop-place-test.true _ _ c.pass_next.ensures c.in_default.is;
    }

pub returns-then-reached-eq-PAST : goal.returns-then-reached-eq-PAST
returns-then-reached-eq-PAST c =
    let x = c.args in
    let l = c.loop-place in
    let i = (along_on x.words.now x.document x.limit x.begun x.stack.now l.place l.stack l.invariant
    c.loop-place-test.true _ _ c.pass_next.ensures _ c.in-Some.is).1 in
    let on = i.on in
    let most = i.most in
    record {
      moved = (i.cut, i.ahead, (omega arith, on, λ l. ⊎_elim (λ m. m) (λ q. absurd (omega arith)) i.moved));
      walked = i.walked;
    }

pub loop-place-smaller : goal.loop-place-smaller
loop-place-smaller c =
    let x = c.args in
    let l = c.loop-place in
    let next = along_on x.words.now x.document x.limit x.begun x.stack.now l.place l.stack l.invariant
    c.loop-place-test.true _ _ c.pass_next.ensures _ c.in-Some.is in
    let on = next.0 in
    let cut = next.1.cut in
    omega arith

pub loop-place-preserved : goal.loop-place-preserved
loop-place-preserved c =
    let x = c.args in
    let l = c.loop-place in
    (along_on x.words.now x.document x.limit x.begun x.stack.now l.place l.stack l.invariant
    c.loop-place-test.true _ _ c.pass_next.ensures _ c.in-Some.is).1

pub returns : goal.returns
returns c =
    let i = c.loop-place.invariant in
    let on = i.on in
    record {
      moved = (i.cut, i.ahead, (omega arith, on, λ l. ⊎_elim (λ m. m) (λ q. absurd (omega arith)) i.moved));
      walked = i.walked;
    }
