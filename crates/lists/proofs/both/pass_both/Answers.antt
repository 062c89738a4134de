-- Function: `pass_both` (src/both.rt).
-- Why it holds: Before each turn, the walk along both lists stands between two documents. Each turn
-- passes one document.
-- Measure: `length first + length second - (place.first + place.second)`, the words of both lists
-- still to pass.
-- What would break it: A document that is passed over, or a loop that ends with one list, would be
-- caught at the last return.
use mathlib.Core.Path.{subst}
use mathlib.Core.Logic.{inl, inr}
use native.Mathlib.Omega.{arith}
use Rattle.lists.specs.Private.Both.{DocumentTo}
use Rattle.lists.proofs.Documents.{both_start, both_stop, both_end}
use Rattle.lists.proofs.both.pass_both.Goals as goal

pub loop-place-init : goal.loop-place-init
loop-place-init c =
    let x = c.args in
    let p = c.requires in
    both_start x.first.now x.second.now _ p.0 p.1 c.put_bottom.ensures

pub pass_document-requires : goal.pass_document-requires
pass_document-requires c =
    (c.loop-place.invariant, elim c.if-place-first.branch [ goal.then-place-first w ↦ inl (omega arith) | goal.else-place-first+then-place-second w ↦ inr (omega arith) ])

pub returns-in_default : goal.returns-in_default
returns-in_default c =
    let x = c.args in
    let l = c.loop-place in
    both_stop x.first.now x.second.now
    (subst (λ step. DocumentTo x.first.now x.second.now l.place step c.pass_document.new.stack) c.in_default.is
    c.pass_document.ensures)

pub loop-place-smaller : goal.loop-place-smaller
loop-place-smaller c =
    let x = c.args in
    let l = c.loop-place in
    let d = subst (λ step. DocumentTo x.first.now x.second.now l.place step c.pass_document.new.stack)
    c.in-Some.is c.pass_document.ensures in
    let on = d.0 in
    let f = d.1.first_cut.0 in
    let s = d.1.second_cut.0 in
    omega arith

pub loop-place-preserved : goal.loop-place-preserved
loop-place-preserved c =
    let x = c.args in
    let l = c.loop-place in
    (subst (λ step. DocumentTo x.first.now x.second.now l.place step c.pass_document.new.stack)
    c.in-Some.is c.pass_document.ensures).1

pub returns : goal.returns
returns c =
    let x = c.args in
    let l = c.loop-place in
    both_end x.first.now x.second.now l.place.first l.place.second l.stack l.invariant (omega arith) c.if-place-second.false
