-- Function: `pass_document` (src/both.rt).
-- Why it holds: Before each turn, the walk along both lists stands in the document. A turn passes a
-- run of the first list, then compares the next nodes, then passes a run of the second.
-- Measure: `length second - b.at`, the words of the second list still to pass.
-- What would break it: A run up to the wrong limit, or a node of both lists that stays in the
-- second, would be caught at the next turn.
use mathlib.Core.Path.{◌≡◌}
use mathlib.Core.Logic.{◌⊎◌, inl, inr}
use mathlib.Core.List.{List}
use Prim.Native.Nat.{ℕ, ◌≤◌, ◌<◌}
use native.Mathlib.Omega.{arith}
use Rattle.lists.specs.declared.both.RunPlace.{RunPlace}
use Rattle.lists.specs.Private.Both.{PAST, RunPast}
use Rattle.lists.proofs.Runs.{ahead_most, amid_held, amid_turn}
use Rattle.lists.proofs.Documents.{Standing, document_ends, first_run, first_stop, second_run, second_stop}
use Rattle.lists.proofs.Documents.{same_on, same_stop, begin_stop, document_begins, document_there, document_moves}
use Rattle.lists.proofs.both.pass_document.Goals as goal

-- The second list's place b, with the top of the stack that the first list's run has left.
abbrev beside : RunPlace → RunPlace → RunPlace
beside b passed = record { at = b.at; start = b.start; top = passed.top }

-- The run of the first list has passed to `passed`, and the second list stands at b, before its end
-- and no further on.
beside_on : {first second : List ℕ} {d : ℕ} {stack : List ℕ} (a b passed : RunPlace)
    → Standing first second d passed.at passed.start b.at b.start passed.top stack × RunPast a b.start passed
    → (b.start ≡ PAST → ⊥)
    → (b.start < PAST) × (b.start ≤ passed.start)
beside_on {second = second} {d} a b passed s more =
    let most = ahead_most second b.at d b.start s.0.second_ahead in
    let up = s.1.0 in
    (omega arith, omega arith)

-- In a turn the second list comes further: past its next node, where the first list has it too, or
-- by a run.
further : (b next passed turned : RunPlace) → b.at ≤ next.at → (b.at < next.at) ⊎ (next.start < passed.start)
    → RunPast next passed.start turned → b.at < turned.at
further b next passed turned l (inl h) m = let on = m.1 in omega arith
further b next passed turned l (inr h) m = let o = m.2 h in omega arith

pub next_document-document-requires : goal.next_document-document-requires
next_document-document-requires c =
    let p = c.requires in
    (p.0.first_cut, p.0.second_cut, p.1)

pub reach-requires : goal.reach-requires
reach-requires c = (c.requires.0.first_cut, omega arith)

pub returns-in_default : goal.returns-in_default
returns-in_default c =
    let x = c.args in
    let d = c.next_document-document in
    absurd (begin_stop x.first.now x.begun.first d.result d.ensures.first_on c.in_default.ensures)

pub reach-requires-2 : goal.reach-requires-2
reach-requires-2 c = (c.requires.0.second_cut, omega arith)

pub returns-in_default-reach : goal.returns-in_default-reach
returns-in_default-reach c =
    let x = c.args in
    let d = c.next_document-document in
    absurd (begin_stop x.second.now x.begun.second d.result d.ensures.second_on c.in_default-reach.ensures)

pub loop-passed-init : goal.loop-passed-init
loop-passed-init c =
    let d = c.next_document-document in
    let one = c.in-Some in
    let other = c.in-Some-reach in
    let w = c.requires.0 in (
      document_begins w d.ensures one.one other.other one.ensures other.ensures,
      omega arith,
      inr (document_there w d.ensures one.one other.other one.ensures other.ensures),
    )

pub pass_run-requires : goal.pass_run-requires
pass_run-requires c =
    let x = c.args in
    let d = c.next_document-document.result in
    let l = c.loop-passed in
    let s = l.invariant.0 in
    (s.first_cut, s.first_ahead, ahead_most x.second.now l.b.at d l.b.start s.second_ahead, amid_held s.amid)

pub returns-in_default-pass_run : goal.returns-in_default-pass_run
returns-in_default-pass_run c =
    let l = c.loop-passed in
    let run = c.pass_run in
    first_stop l.a l.invariant.0 run.result run.new.stack run.ensures.walked c.in_default-pass_run.is

pub returns-then-b-eq-PAST : goal.returns-then-b-eq-PAST
returns-then-b-eq-PAST c =
    let l = c.loop-passed in
    let run = c.pass_run in
    let p = c.in-Some-pass_run.passed in
    let s = first_run l.a l.invariant.0 run.result run.new.stack run.ensures.walked run.ensures.moved p c.in-Some-pass_run.is in
    let most = ahead_most c.args.first.now p.at c.next_document-document.result p.start s.0.first_ahead in
    let up = s.1.0 in
    let f = c.in-Some.ensures.0 in
    let g = c.in-Some-reach.ensures.0 in
    let on = document_moves _ l.a.at l.b.at p.at l.a.start l.b.start l.invariant.1 l.invariant.2 (omega arith) s.1.1 s.1.2 in
    (omega arith, document_ends s.0 (omega arith) (omega arith))

pub pass_same-requires : goal.pass_same-requires
pass_same-requires c =
    let l = c.loop-passed in
    let run = c.pass_run in
    let p = c.in-Some-pass_run.passed in
    let s = first_run l.a l.invariant.0 run.result run.new.stack run.ensures.walked run.ensures.moved p c.in-Some-pass_run.is in
    let t = beside_on l.a l.b p s (λ q. omega arith) in
    (s.0.first_cut, s.0.first_ahead, s.0.second_cut, s.0.second_ahead, t.0)

pub returns-in_default-pass_same : goal.returns-in_default-pass_same
returns-in_default-pass_same c =
    let l = c.loop-passed in
    let run = c.pass_run in
    let p = c.in-Some-pass_run.passed in
    let s = first_run l.a l.invariant.0 run.result run.new.stack run.ensures.walked run.ensures.moved p c.in-Some-pass_run.is in
    let t = beside_on l.a l.b p s (λ q. omega arith) in
    same_stop p (beside l.b p) s.0 t.0 c.in_default-pass_same.ensures

pub pass_run-requires-in-loop-passed : goal.pass_run-requires-in-loop-passed
pass_run-requires-in-loop-passed c =
    let l = c.loop-passed in
    let run = c.pass_run in
    let p = c.in-Some-pass_run.passed in
    let s = first_run l.a l.invariant.0 run.result run.new.stack run.ensures.walked run.ensures.moved p c.in-Some-pass_run.is in
    let t = beside_on l.a l.b p s (λ q. omega arith) in
    let n = (same_on p (beside l.b p) s.0 t.0 t.1 c.in-Some-pass_same.next c.in-Some-pass_same.ensures).0 in
    (n.second_cut, n.second_ahead, ahead_most c.args.first.now p.at c.next_document-document.result p.start n.first_ahead, amid_held (amid_turn n.amid))

pub returns-in_default-pass_run-2 : goal.returns-in_default-pass_run-2
returns-in_default-pass_run-2 c =
    let l = c.loop-passed in
    let run = c.pass_run in
    let p = c.in-Some-pass_run.passed in
    let s = first_run l.a l.invariant.0 run.result run.new.stack run.ensures.walked run.ensures.moved p c.in-Some-pass_run.is in
    let t = beside_on l.a l.b p s (λ q. omega arith) in
    let next = c.in-Some-pass_same.next in
    let n = (same_on p (beside l.b p) s.0 t.0 t.1 next c.in-Some-pass_same.ensures).0 in
    let then = c.pass_run-in-loop-passed in
    second_stop next n then.result then.new.stack then.ensures.walked c.in_default-pass_run-2.is

pub loop-passed-smaller : goal.loop-passed-smaller
loop-passed-smaller c =
    let l = c.loop-passed in
    let run = c.pass_run in
    let p = c.in-Some-pass_run.passed in
    let s = first_run l.a l.invariant.0 run.result run.new.stack run.ensures.walked run.ensures.moved p c.in-Some-pass_run.is in
    let t = beside_on l.a l.b p s (λ q. omega arith) in
    let next = c.in-Some-pass_same.next in
    let n = same_on p (beside l.b p) s.0 t.0 t.1 next c.in-Some-pass_same.ensures in
    let then = c.pass_run-in-loop-passed in
    let turned = c.in-Some-pass_run-2.turned in
    let m = second_run next n.0 then.result then.new.stack then.ensures.walked then.ensures.moved turned c.in-Some-pass_run-2.is in
    let cut = m.0.second_cut.0 in
    let more = further l.b next p turned n.1 n.2 m.1 in
    omega arith

pub loop-passed-preserved : goal.loop-passed-preserved
loop-passed-preserved c =
    let l = c.loop-passed in
    let run = c.pass_run in
    let p = c.in-Some-pass_run.passed in
    let s = first_run l.a l.invariant.0 run.result run.new.stack run.ensures.walked run.ensures.moved p c.in-Some-pass_run.is in
    let t = beside_on l.a l.b p s (λ q. omega arith) in
    let next = c.in-Some-pass_same.next in
    let n = same_on p (beside l.b p) s.0 t.0 t.1 next c.in-Some-pass_same.ensures in
    let then = c.pass_run-in-loop-passed in
    let turned = c.in-Some-pass_run-2.turned in
    let m = second_run next n.0 then.result then.new.stack then.ensures.walked then.ensures.moved turned c.in-Some-pass_run-2.is in
    let more = further l.b next p turned n.1 n.2 m.1 in
    let on = s.1.1 in
    let far = l.invariant.1 in
    (m.0, omega arith, inl (omega arith))
