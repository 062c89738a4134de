-- Function: `pass_samples` (src/samples.rt).
-- Why it holds: Before each turn the subtotal is that of the samples from `from` up to `next`, none
-- of which stands after `limit`. Each turn adds the next one, or ends at one that does.
-- What would break it: A sample added twice, or one passed over, would be caught at the next turn.
use mathlib.Core.Path.{refl, sym, ap, subst, ◌∙◌}
use native.Mathlib.Omega.{arith}
use Rattle.nodes.specs.Node.{afterb}
use Rattle.sheets.specs.Private.Walk.{SmallSubtotal}
use Rattle.sheets.specs.Sheet.{plus}
use Rattle.sheets.proofs.SampleLaws.{by_more, no_row, no_stretch, stretch_more, stretch_small, word_small}
use Rattle.sheets.proofs.samples.pass_samples.Goals as goal

pub loop-next-init : goal.loop-next-init
loop-next-init c =
    let a = c.args in
    let p = c.requires in
    let z = c.default-subtotal.ensures in
    (omega arith, p.1, p.2, no_row _ z.0 z.1.0 z.1.1 ∙ no_stretch a.samples.now a.hundredths.now a.from)

pub added-subtotal-requires : goal.added-subtotal-requires
added-subtotal-requires c =
    let l = c.loop-next in
    let a = c.args in
    let p = c.requires in (
      stretch_small a.samples.now a.hundredths.now p.0 a.from l.next l.invariant.1 l.invariant.3,
      subst SmallSubtotal (sym c.of_word.ensures) (word_small a.samples.now a.hundredths.now p.0 l.next _ (omega arith) refl),
    )

pub loop-next-preserved : goal.loop-next-preserved
loop-next-preserved c =
    let l = c.loop-next in
    let a = c.args in
    let p = c.requires in (
      omega (arith, l.invariant.0),
      omega arith,
      by_more a.samples.now a.limit l.next l.invariant.2
          (ap (λ n. afterb n a.limit) (sym c.node_at.ensures) ∙ sym c.is_after.ensures ∙ c.if-is_after.false),
      c.added-subtotal.ensures ∙ ap (λ u. plus u c.of_word.result) l.invariant.3 ∙ ap (plus _) c.of_word.ensures
          ∙ stretch_more a.samples.now a.hundredths.now p.0 a.from l.next _ l.invariant.0 (omega arith) refl,
    )
