-- Function: `put_unfilled` (src/text.rt).
-- Why it holds: The text has the letters passed without their blanks. A letter that is no blank is
-- put right after them.
-- What would break it: A blank put, or a letter left out, would be caught at the loop.
use mathlib.Core.Path.{◌≡◌, sym, subst}
use mathlib.Core.List.{List, [], ◌∷◌}
use Prim.Native.Nat.{ℕ, ◌+◌, ◌<◌}
use native.Mathlib.Omega.{arith}
use lib.ListN.{length, get_or}
use lib.Seq.{take_all}
use Rattle.laws.specs.Choose.{keep}
use Rattle.lines.specs.declared.text.Writer.{Writer}
use Rattle.lines.specs.Line.{BLANK, unfilled}
use Rattle.lines.specs.Private.Puts.{Puts}
use Rattle.lines.proofs.Blanks.{unfilled_letter, unfilled_blank}
use Rattle.lines.proofs.Putting.{puts_none, put_next}
use Rattle.lines.proofs.text.Writer.put_unfilled.Invariants.{Passed}
use Rattle.lines.proofs.text.Writer.put_unfilled.Goals as goal
use Rattle.lines.proofs.text.Writer.put_unfilled.Goals.{then-letter-ne-FILLING, else-letter-ne-FILLING}

starts : (before : Writer) (letters : List ℕ) → Passed before letters 0 before
unfolding unfilled keep
starts before letters = record { few = omega arith; puts = puts_none before }

module _ {before after : Writer} {letters : List ℕ} {index : ℕ} (p : Passed before letters index after) where
  letter : {later : Writer} → index < length letters → (get_or letters index 0 ≡ BLANK → ⊥)
      → Puts after (get_or letters index 0 ∷ []) later → Passed before letters (index + 1) later
  letter {later} l h q =
      let few = p.few in
      let place = q.next in
      record {
        few = omega arith;
        puts = subst (λ us. Puts before us later) (sym (unfilled_letter letters index l h)) (put_next p.puts (get_or letters index 0 ∷ []) q);
      }

  blank : index < length letters → get_or letters index 0 ≡ BLANK → Passed before letters (index + 1) after
  blank l h =
      let few = p.few in
      record { few = omega arith; puts = subst (λ us. Puts before us after) (sym (unfilled_blank letters index l h)) p.puts }

pub loop-letter-init : goal.loop-letter-init
loop-letter-init c = starts _ _

pub put_byte-requires : goal.put_byte-requires
put_byte-requires c =
    let p = c.loop-letter.invariant in
    omega (arith, p.few, p.puts.long)

pub loop-letter-preserved : goal.loop-letter-preserved
loop-letter-preserved c =
    let p = c.loop-letter.invariant in
    elim c.if-letter-ne-FILLING.branch [
      | then-letter-ne-FILLING w ↦ rw w.self-is (letter p (omega arith) w.if-letter-ne-FILLING.true w.put_byte.ensures)
      | else-letter-ne-FILLING w ↦ rw w.self-is (blank p (omega arith) w.if-letter-ne-FILLING.false)
    ]

pub returns : goal.returns
returns c =
    let p = c.loop-letter.invariant in
    let letters = c.args.letters.now in
    subst (λ us. Puts c.args.self.now (unfilled us) c.loop-letter.self) (take_all c.loop-letter.letter-index letters (omega arith)) p.puts
