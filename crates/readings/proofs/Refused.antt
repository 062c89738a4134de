-- Why it holds: Each test of `decode` asks for a kind and for what belongs to it. So what passes
-- none of them has another kind, or the kind and not what belongs to it.
-- What would break it: A fault that is taken, or a reading that is refused, would be caught here.
use mathlib.Core.Path.{◌≡◌, refl}
use mathlib.Core.Logic.{◌↔◌, inl, inr}
use mathlib.Core.Bool.{true, false, not}
use Prim.Native.Nat.{ℕ}
use lib.Dec.{eqb}
use lib.Ieee.{Float, binary32, of_bits, lt}
use lib.Ieee.Scale.{finite}
use borrow.Author.Tests.{eq-eqb, ne_eqb, eqb-true, eqb-false}
use Rattle.laws.proofs.Tests.{either, never, and_right, not_so}
use Rattle.readings.specs.Reading.{MISSING, PERCENT, GRAMS, MOST_PERCENT, MOST_GRAMS, float, withinb, decode}
use Rattle.readings.specs.Refusal.{OutOf, Unread, another_kind, missing_with_bits, percent_out, grams_out}
use Rattle.readings.specs.Sample.{fault_in}

-- A value that isn't within its bounds is out of them in one of three ways.
out : (most x : Float) → withinb most x ≡ false → OutOf most x
unfolding withinb
out most x h =
    elim (either (finite x)) [
      | inr f ↦ inl f
      | inl f ↦ elim (either (lt x (float 0))) [
        | inl l ↦ inr (inl l)
        | inr l ↦ elim (either (lt most x)) [ inl g ↦ inr (inr g) | inr g ↦ absurd (never refl (rw (f, l, g) at h)) ]
      ]
    ]

not_within : (most x : Float) → OutOf most x → withinb most x ≡ false
unfolding withinb
not_within most x (inl f) = rw f
not_within most x (inr (inl l)) = and_right (finite x) (rw l)
not_within most x (inr (inr g)) = and_right (finite x) (and_right (not (lt x (float 0))) (rw g))

module _ (kind bits : ℕ) where
  abbrev x : Float
  x = of_bits binary32 bits

  told : fault_in (decode kind bits) ≡ true → Unread kind bits
  unfolding decode
  told h =
      elim (either (eqb kind MISSING)) [
        | inl m ↦ missing_with_bits (eqb-true kind MISSING m) (λ b. never h (rw (m, eq-eqb bits 0 b)))
        | inr m ↦ elim (either (eqb kind PERCENT)) [
          | inl p ↦ percent_out (eqb-true kind PERCENT p) (out MOST_PERCENT x (not_so (λ w. never h (rw (m, p, w)))))
          | inr p ↦ elim (either (eqb kind GRAMS)) [
            | inl g ↦ grams_out (eqb-true kind GRAMS g) (out MOST_GRAMS x (not_so (λ w. never h (rw (m, p, g, w)))))
            | inr g ↦ another_kind (eqb-false kind MISSING m) (eqb-false kind PERCENT p) (eqb-false kind GRAMS g)
          ]
        ]
      ]

  refused : Unread kind bits → fault_in (decode kind bits) ≡ true
  unfolding decode
  refused (another_kind m p g) = rw (ne_eqb kind MISSING m, ne_eqb kind PERCENT p, ne_eqb kind GRAMS g)
  refused (missing_with_bits m b) = rw (m, ne_eqb bits 0 b)
  refused (percent_out p o) = rw (p, not_within MOST_PERCENT x o)
  refused (grams_out g o) = rw (g, not_within MOST_GRAMS x o)

  -- Two words are faulty exactly when one of the cases applies.
  pub faulty_iff : (fault_in (decode kind bits) ≡ true) ↔ Unread kind bits
  faulty_iff = (told, refused)
