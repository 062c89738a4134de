-- Function: `decode` (src/reading.rt).
-- Why it holds: Each arm's kind and test are one of the definition's. Bits that are within bounds
-- are no NaN's, so a float can be made of them.
-- What would break it: Another kind taken for a reading, or a bound left out, would be caught at
-- the return of that arm. So would a missing reading with bits.
use borrow.Author.Rules.{rules}
use mathlib.Core.Path.{◌≡◌, refl, sym, ap, ◌∙◌}
use mathlib.Core.Bool.{Bool, true, false, cond, not, ◌&&◌}
use Prim.Native.Nat.{ℕ}
use lib.Dec.{T, eqb}
use lib.Ieee.{Float, binary32, nan_bits, of_bits}
use native.Mathlib.Omega.{arith}
use borrow.Author.Tests.{eq-eqb, ne_eqb}
use Rattle.laws.proofs.Tests.{and_make, and_left, and_right}
use Rattle.std.specs.Prelude.{Some, None}
use Rattle.readings.specs.declared.reading.Reading.TheVariants.{Percent, Grams, Missing}
use Rattle.readings.specs.Reading.{MISSING, PERCENT, GRAMS, MOST_PERCENT, MOST_GRAMS, withinb, decode}
use Rattle.readings.proofs.FloatBits.{finite_bits, finite_no_nan, hundred_bits, thousand_bits}
use Rattle.readings.proofs.Values.{within_read}
use Rattle.readings.proofs.reading.decode.Goals as goal

no_nan : (most : Float) (bits : ℕ) → withinb most (of_bits binary32 bits) ≡ true → T (not (nan_bits binary32 bits))
no_nan most bits h = finite_no_nan bits (within_read most (of_bits binary32 bits) h).0

module _ (kind bits : ℕ) where
  abbrev x : Float
  x = of_bits binary32 bits

  -- The three tests of the definition, and what they decide.
  decided : (a b c : Bool) → (eqb kind MISSING && eqb bits 0) ≡ a → (eqb kind PERCENT && withinb MOST_PERCENT x) ≡ b
      → (eqb kind GRAMS && withinb MOST_GRAMS x) ≡ c
      → cond a (Some Missing) (cond b (Some (Percent x)) (cond c (Some (Grams x)) None)) ≡ decode kind bits
  unfolding decode
  decided a b c p q r = sym (rw (p, q, r))

-- A value is within a bound, by the answer of `is_within` for the bound's bits.
within : {most limit : Float} {b : Bool} (bits : ℕ) (r : Bool) → r ≡ withinb most (of_bits binary32 bits) → r ≡ b → most ≡ limit
    → withinb limit (of_bits binary32 bits) ≡ b
within bits r e t q = ap (λ m. withinb m (of_bits binary32 bits)) (sym q) ∙ sym e ∙ t

-- Where an arm isn't taken, its kind or its test doesn't hold. So the definition's test is false.
ruleset past = (rules, and_left, and_right, ne_eqb, within, hundred_bits, thousand_bits)

pub returns-in-0 : goal.returns-in-0
returns-in-0 c =
    let a = c.args in
    decided a.kind a.bits true _ _ (and_make (eq-eqb a.kind MISSING (omega arith)) (eq-eqb a.bits 0 (omega arith))) refl refl

pub is_within-requires : goal.is_within-requires
is_within-requires c = finite_bits _

pub is_within-requires-in-2-1 : goal.is_within-requires-in-2-1
is_within-requires-in-2-1 c = finite_bits _

pub float_from_bits-result : goal.float_from_bits-result
float_from_bits-result c = no_nan _ _ (sym c.if-is_within.ensures)

pub returns-in-1 : goal.returns-in-1
returns-in-1 c =
    let a = c.args in
    decided a.kind a.bits false true _
    (search past)
    (and_make (eq-eqb a.kind PERCENT (omega arith)) (within a.bits true c.if-is_within.ensures refl hundred_bits))
    refl

pub float_from_bits-result-in-2 : goal.float_from_bits-result-in-2
float_from_bits-result-in-2 c = no_nan _ _ (sym c.if-is_within-2.ensures)

pub returns-in-2 : goal.returns-in-2
returns-in-2 c =
    let a = c.args in
    decided a.kind a.bits false false true
    (search past)
    (search past)
    (and_make (eq-eqb a.kind GRAMS (omega arith)) (within a.bits true c.if-is_within-2.ensures refl thousand_bits))

pub returns-in_default : goal.returns-in_default
returns-in_default c =
    let a = c.args in
    decided a.kind a.bits false false false (search past) (search past) (search past)

pub returns-in_default-2 : goal.returns-in_default-2
returns-in_default-2 c =
    let a = c.args in
    decided a.kind a.bits false false false (search past) (search past) (search past)

pub returns-in_default-3 : goal.returns-in_default-3
returns-in_default-3 c =
    let a = c.args in
    decided a.kind a.bits false false false (search past) (search past) (search past)

pub returns-in_default-4 : goal.returns-in_default-4
returns-in_default-4 c =
    let a = c.args in
    decided a.kind a.bits false false false (search past) (search past) (search past)
