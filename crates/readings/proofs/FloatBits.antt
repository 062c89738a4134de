-- Why it holds: The exponent's field of a float's bits is all ones in an infinity and a NaN, and in
-- nothing else. Without the sign, such bits are a number from the infinity's on.
-- What would break it: Another bound would be caught at `finite_bits`.
use Prim.Native.Nat.{ℕ, zero, suc, ◌+◌, ◌/◌, ◌%◌, ◌≤◌, ◌<◌}
use native.Mathlib.Omega.{arith}
use mathlib.Core.Path.{◌≡◌, refl, sym, ap, subst, ◌∙◌}
use mathlib.Core.Bool.{Bool, true, false, cond, not}
use lib.Dec.{T, leb, eqb}
use lib.Ieee.{Float, nan, inf, fin, binary32, is_nan, nan_bits, odd, of_fields, of_bits, of_int, low, prec, hid, lt, le}
use lib.Ieee.Bits.{nan_bits_is}
use lib.Ieee.Scale.{finite}
use borrow.Author.Tests.{leb-true, eqb-true, eq-eqb, le-leb}
use Rattle.readings.specs.Reading.{float, MOST_PERCENT, MOST_GRAMS, GRAMS_A_PERCENT}
use Rattle.laws.proofs.Tests.{either, same_test, never, not_so}
use Rattle.std.proofs.lemmas.Float.{lt_irrefl, lt_of_lt_of_le, le_of_not-lt, T_from_true, T_from_false}
use lib.Ieee.Bits.{is_true}
use mathlib.Core.Logic.{inl, inr}

-- The bits of the infinity above all numbers, and the weight of the sign.
abbrev pub INFINITY : ℕ
INFINITY = 2139095040

abbrev pub SIGN : ℕ
SIGN = 2147483648

finite_odd : (d : ℕ) (s : Bool) (q k l : ℕ) → finite (odd d s q k l) ≡ true
unfolding odd
finite_odd d s zero k l = refl
finite_odd d s (suc q) k l = refl

finite_fields : (s : Bool) (x t : ℕ) → finite (of_fields binary32 s x t) ≡ not (eqb x 255)
unfolding of_fields
finite_fields s zero t = finite_odd (prec binary32) s t 0 (low binary32)
finite_fields s (suc x) t = go (eqb (suc x) 255) (eqb t 0) _ (finite_odd (prec binary32) s (hid binary32 + t) x (low binary32))
  where
    go : (a b : Bool) (y : Float) → finite y ≡ true → finite (cond a (cond b (inf s) nan) y) ≡ not a
    go true true y h = refl
    go true false y h = refl
    go false b y h = h

field : (r : ℕ) → r < SIGN → eqb (r / 8388608) 255 ≡ leb INFINITY r
field r h = same_test (λ e. le-leb _ _ (up (eqb-true _ _ e))) (λ e. eq-eqb _ _ (down (leb-true _ _ e)))
  where
    up : r / 8388608 ≡ 255 → INFINITY ≤ r
    up e = omega arith

    down : INFINITY ≤ r → r / 8388608 ≡ 255
    down e = omega arith

pub finite_bits : (bits : ℕ) → finite (of_bits binary32 bits) ≡ not (leb INFINITY (bits % SIGN))
unfolding of_bits
finite_bits bits = finite_fields _ (bits % SIGN / 8388608) _ ∙ ap not (field (bits % SIGN) (omega arith))

number : (x : Float) → finite x ≡ true → T (not (is_nan x))
unfolding is_nan
number nan e = absurd (never e refl)
number (inf s) e = tt
number (fin s m e) f = tt

-- The bits of a finite float aren't a NaN's.
pub finite_no_nan : (bits : ℕ) → finite (of_bits binary32 bits) ≡ true → T (not (nan_bits binary32 bits))
finite_no_nan bits h = subst (λ (b : Bool). T (not b)) (sym (nan_bits_is binary32 bits)) (number (of_bits binary32 bits) h)

-- The bits of the numbers that the code writes as literals.
pub zero_bits : of_bits binary32 0 ≡ float 0
unfolding of_bits of_int
zero_bits = refl

pub ten_bits : of_bits binary32 1092616192 ≡ GRAMS_A_PERCENT
unfolding of_bits of_int
ten_bits = refl

pub hundred_bits : of_bits binary32 1120403456 ≡ MOST_PERCENT
unfolding of_bits of_int
hundred_bits = refl

pub thousand_bits : of_bits binary32 1148846080 ≡ MOST_GRAMS
unfolding of_bits of_int
thousand_bits = refl

-- Of two finite floats, x is at most y exactly when y isn't below x.
pub le_turned : (x y : Float) → finite x ≡ true → finite y ≡ true → le x y ≡ not (lt y x)
le_turned x y f g =
    elim (either (lt y x)) [
      | inl h ↦ rw h (not_so (λ l. lt_irrefl y (lt_of_lt_of_le y x y (T_from_true _ h) (T_from_true _ l))))
      | inr h ↦ rw h (is_true _ (le_of_not-lt y x (number y g) (number x f) (T_from_false _ h)))
    ]
