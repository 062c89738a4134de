-- Function: `put_decimal` (src/text.rt).
-- Why it holds: The digits of `rest`, put before those that were put, make the whole number. Each
-- turn puts the last two of those that are left.
-- Measure: `rest`, the number whose digits are still to put.
-- What would break it: Two digits put one place off, or those of another number, would be caught at
-- the next turn. A digit left out would be caught at the return.
use mathlib.Core.Path.{◌≡◌, refl, sym, ap, ◌∙◌}
use mathlib.Core.List.{List}
use Prim.Native.Nat.{ℕ, ◌+◌, ◌-◌, ◌/◌, ◌%◌, ◌<◌}
use native.Mathlib.Omega.{arith}
use lib.ListN.{length}
use lib.Seq.{sets, length-sets}
use Rattle.lines.specs.declared.text.Writer.{Writer}
use Rattle.lines.specs.Line.{decimal}
use Rattle.lines.specs.Private.DigitTable.{two_digits}
use Rattle.lines.specs.Private.Puts.{Puts}
use Rattle.lines.proofs.Digits.{decimal_one, decimal_two, decimal_more, length_more}
use Rattle.lines.proofs.Putting.{sets_last_first}
use Rattle.lines.proofs.text.Writer.put_decimal.Invariants.{Left}
use Rattle.lines.proofs.text.Writer.put_decimal.Goals as goal
use Rattle.lines.proofs.text.Writer.put_decimal.Goals.{then-rest-lt10, else-rest-lt10}

module _ {before after : Writer} {number rest to : ℕ} (p : Left before number after rest to) where
  two_more : (later : Writer) → later.text.ghost_name ≡ after.text.ghost_name → later.at ≡ after.at → 99 < rest → rest < 18446744073709551616
      → later.text.now ≡ sets after.text.now (to - 2) (two_digits (rest % 100)) → Left before number later (rest / 100) (to - 2)
  two_more later s t h l e =
      let less = p.less in
      let place = p.place in
      let room = p.room in
      let more = length_more rest (omega arith) l in
      let next : to - 2 ≡ before.at + length (decimal (rest / 100)) = omega arith in
      let kept = ap length e ∙ length-sets after.text.now (to - 2) (two_digits (rest % 100)) in
      record {
        same = s ∙ p.same;
        here = t ∙ p.here;
        less = omega arith;
        place = next;
        room = omega arith;
        long = kept ∙ p.long;
        whole =
            ap (λ ds. sets ds before.at (decimal (rest / 100))) e
            ∙ sets_last_first after.text.now before.at (decimal (rest / 100)) (to - 2) (two_digits (rest % 100)) next
            ∙ ap (sets after.text.now before.at) (sym (decimal_more rest (omega arith) l))
            ∙ p.whole;
      }

  -- The first digits are put last.
  first : (later : Writer) (ds : List ℕ) → later.text.ghost_name ≡ after.text.ghost_name → later.at ≡ before.at + length (decimal number)
      → ds ≡ decimal rest → later.text.now ≡ sets after.text.now after.at ds → Puts before (decimal number) later
  first later ds s t d e =
      let shows = e ∙ (λ i. sets after.text.now (p.here i) (d i)) ∙ p.whole in
      record {
        same = s ∙ p.same;
        long = ap length shows ∙ length-sets before.text.now before.at (decimal number);
        next = t;
        shows = shows;
      }

pub loop-rest-init : goal.loop-rest-init
loop-rest-init c = record { same = refl; here = refl; less = omega arith; place = omega arith; room = omega arith; long = refl; whole = refl }

pub loop-rest-preserved : goal.loop-rest-preserved
loop-rest-preserved c = two_more c.loop-rest.invariant _ refl refl (omega arith) (omega arith) c.put_two.ensures

pub returns : goal.returns
returns c =
    let p = c.loop-rest.invariant in
    let rest = c.loop-rest.rest in
    let end = ap (λ k. c.args.self.now.at + k) c.digit_count.ensures in
    elim c.if-rest-lt10.branch [
      | then-rest-lt10 w ↦ rw w.self-is (first p _ _ refl end (sym (decimal_one rest (omega arith))) refl)
      | else-rest-lt10 w ↦ rw w.self-is (first p _ _ refl end (sym (decimal_two rest (omega arith) (omega arith))) w.put_two-else-rest-lt10.ensures)
    ]
