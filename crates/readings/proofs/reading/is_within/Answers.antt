-- Function: `is_within` (src/reading.rt).
-- Why it holds: Bits from the infinity's on are no finite number, and all others are. Of finite
-- numbers the two comparisons are those of the definition, turned round.
-- What would break it: A bound one off would be caught at the first return. A zero taken for a
-- number below zero, or `most` left out, would be caught at the return after it.
use mathlib.Core.Path.{◌≡◌, refl, sym, ap, ◌∙◌}
use mathlib.Core.Bool.{Bool, true, false, not, ◌&&◌}
use Prim.Native.Nat.{ℕ, ◌%◌, ◌≤◌, ◌<◌}
use lib.Ieee.{Float, binary32, of_bits, lt, le}
use lib.Ieee.Scale.{finite}
use borrow.Author.Tests.{le-leb, lt-leb}
use Rattle.readings.specs.Reading.{float, withinb}
use Rattle.readings.proofs.FloatBits.{INFINITY, SIGN, finite_bits, finite_no_nan, zero_bits, le_turned}
use Rattle.readings.proofs.reading.is_within.Goals as goal

module _ (most : Float) (bits : ℕ) where
  abbrev x : Float
  x = of_bits binary32 bits

  infinite : INFINITY ≤ bits % SIGN → false ≡ withinb most x
  unfolding withinb
  infinite h = sym (ap (λ (b : Bool). b && (not (lt x (float 0)) && not (lt most x))) (finite_bits bits ∙ ap not (le-leb _ _ h)))

  number : bits % SIGN < INFINITY → finite x ≡ true
  number h = finite_bits bits ∙ ap not (lt-leb _ _ h)

  bounds : finite x ≡ true → finite most ≡ true → (le (of_bits binary32 0) x && le x most) ≡ withinb most x
  unfolding withinb
  bounds f g = rw (le_turned (of_bits binary32 0) x (finite_bits 0) f, le_turned x most f g, f, zero_bits) refl

pub returns-then-bits-ge-INFINITY : goal.returns-then-bits-ge-INFINITY
returns-then-bits-ge-INFINITY c = infinite _ _ c.if-bits-ge-INFINITY.true

pub float_from_bits-value : goal.float_from_bits-value
float_from_bits-value c = finite_no_nan _ (number c.args.most _ c.if-bits-ge-INFINITY.false)

pub returns-then-value : goal.returns-then-value
returns-then-value c =
    let most = c.args.most in
    ap (λ (b : Bool). b && le (of_bits binary32 c.args.bits) most) (sym c.if-value.true)
    ∙ bounds most _ (number most _ c.if-bits-ge-INFINITY.false) c.requires

pub returns-else-value : goal.returns-else-value
returns-else-value c =
    let most = c.args.most in
    c.if-value.false
    ∙ ap (λ (b : Bool). b && le (of_bits binary32 c.args.bits) most) (sym c.if-value.false)
    ∙ bounds most _ (number most _ c.if-bits-ge-INFINITY.false) c.requires
