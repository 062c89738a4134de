-- Function: `pass_samples` (src/range.rt).
-- Why it holds: At each turn the low and the high carried are those of the present readings passed
-- so far, and none of those was faulty. So the first faulty one, or the end, gives the answer.
-- What would break it: A sample passed over, or one of another zone taken in, would be caught at
-- the next turn. An index one off would be caught at the first return.
use native.Mathlib.Omega.{arith}
use mathlib.Core.Path.{◌≡◌, sym, ap, ◌∙◌}
use mathlib.Core.List.{List}
use Prim.Native.Nat.{ℕ, ◌+◌}
use Rattle.std.specs.Prelude.{Option, Some, Err}
use Rattle.answers.specs.Refusal.{verdict_of}
use Rattle.nodes.specs.declared.node.Node.{Node}
use Rattle.nodes.specs.Node.{insideb}
use Rattle.readings.specs.Sample.{Sample, samples_in}
use Rattle.ranges.specs.declared.range.Range.{Range}
use Rattle.ranges.proofs.Passing.{Reached, pass_start, pass_end, samples_count, outside_turn, missing_turn, percent_turn, faulty_turn}
use Rattle.ranges.proofs.range.pass_samples.Goals as goal
use Rattle.ranges.proofs.range.pass_samples.Goals.{then-is_inside+in-Some-in_percent, then-is_inside+in_default-in_percent, else-is_inside}

-- The same place, where the ways of a turn meet again.
meet : (zone : Node) (ss : List Sample) (i : ℕ) {range before : Option Range} → range ≡ before
    → Reached zone ss before i → Reached zone ss range i
meet zone ss i q r = rw q r

pub loop-index-init : goal.loop-index-init
loop-index-init c = (omega arith, pass_start _ _)

pub returns-in_default : goal.returns-in_default
returns-in_default c =
    let a = c.args in
    ap (λ f. Err (verdict_of f)) c.unread_at.ensures
    ∙ faulty_turn a.zone a.samples.now a.readings.now c.requires.0 _ _ c.loop-index.invariant.1 (omega arith)
    (sym c.reading_at.ensures ∙ c.in_default.is)

pub loop-index-preserved : goal.loop-index-preserved
loop-index-preserved c =
    let zone = c.args.zone in
    let samples = c.args.samples.now in
    let readings = c.args.readings.now in
    let ss = samples_in samples readings in
    let paired = c.requires.0 in
    let read = sym c.reading_at.ensures ∙ c.in-Some.is in
    let lies = sym (c.is_inside.ensures ∙ ap (λ (n : Node). insideb n zone) c.node_at.ensures) in
    let j = c.loop-index.index + 1 in (
      omega arith,
      elim c.if-is_inside.branch [
        | then-is_inside+in-Some-in_percent w ↦ meet zone ss j (w.range-is ∙ ap (λ k. Some k) w.taken_in.ensures)
            (percent_turn zone samples readings paired _ _ c.loop-index.invariant.1 (omega arith) _ _ read
            (lies ∙ w.if-is_inside.true) (sym w.in_percent.ensures ∙ w.in-Some-in_percent.is))
        | then-is_inside+in_default-in_percent w ↦ meet zone ss j w.range-is
            (missing_turn zone samples readings paired _ _ c.loop-index.invariant.1 (omega arith) _ read
            (lies ∙ w.if-is_inside.true) (sym w.in_percent.ensures ∙ w.in_default-in_percent.is))
        | else-is_inside w ↦ meet zone ss j w.range-is
            (outside_turn zone samples readings paired _ _ c.loop-index.invariant.1 (omega arith) _ read (lies ∙ w.if-is_inside.false))
      ],
    )

pub returns : goal.returns
returns c =
    let a = c.args in
    let whole = samples_count a.zone a.samples.now a.readings.now c.requires.0 in
    pass_end a.zone _ _ _ c.loop-index.invariant.1 (omega arith)
