-- Why it holds: A float from zero on is a fraction without a sign, or minus zero, which is 0 / 1.
-- So its order is that of fractions. Rounding keeps that order, so a tenth of at most a thousand
-- rounds to at most a hundred.
-- What would break it: A `withinb` that let a NaN, an infinity or a value below zero pass would be
-- caught here. So would a bound in grams above ten times the one in percent.
use Prim.Native.Nat.{ℕ, ◌+◌, ◌*◌, ◌≤◌, ◌<◌}
use mathlib.Core.Path.{◌≡◌, refl, sym, ap, ◌∙◌, subst}
use mathlib.Core.Logic.{inl, inr}
use mathlib.Core.Bool.{Bool, true, false, not, ◌&&◌, ◌||◌, beq, and-true}
use mathlib.Core.List.{List, [], ◌∷◌, flat_map}
use native.Mathlib.Nat.{le_refl, le_of_eq, le_of_lt, eq-or-lt_of_le, zero-add, zero-mul, mul-pos}
use native.Mathlib.Omega.{arith}
use lib.Dec.{ltb, eqb, lit<}
use lib.IntN.{ℤ, pos}
use lib.Ieee.{Float, nan, inf, fin, binary32, up, down, below, level, round, lt, eq, le, div, of_int, of_bits}
use lib.Ieee.Bits.{is_true}
use lib.Ieee.Fits.{down_pos}
use lib.Ieee.Order.{round_mono}
use lib.Ieee.Positive.{num, den, den_pos, through}
use lib.Ieee.Scale.{finite, round_same}
use borrow.Author.Tests.{ltb-true, ltb-false, lt-ltb, le-ltb, eqb-true, eq-eqb}
use Rattle.laws.specs.Choose.{All}
use Rattle.laws.proofs.Choices.{all_append}
use Rattle.laws.proofs.Tests.{either, never, so, and_read, and_make, or_read, or_left, or_right, not_read}
use Rattle.readings.specs.Reading.{MISSING, PERCENT, GRAMS, float, MOST_PERCENT, MOST_GRAMS, GRAMS_A_PERCENT, withinb, decode}
use Rattle.readings.specs.Sample.{Sample, percent_in, reading_of, present}

-- p is finite and lies from zero to a hundred percent.
abbrev pub Within : Float → Type 0
Within p = withinb MOST_PERCENT p ≡ true

-- x is finite and not below zero: it has no sign, or it is minus zero.
abbrev Amount : Float → Type 0
Amount nan = ⊥
Amount (inf s) = ⊥
Amount (fin false m e) = Unit {0}
Amount (fin true m e) = m * up e ≡ 0

none_times : (a b : ℕ) → a ≡ 0 → a * b ≡ 0
none_times a b h = ap (λ k. k * b) h ∙ zero-mul b

below_none : (a b : ℕ) → b ≡ 0 → ltb a b ≡ false
below_none a b h = le-ltb a b (omega arith)

-- Of such floats the order is that of their fractions, and they are equal as their fractions are.
lt_is : (x y : Float) → Amount x → Amount y → lt x y ≡ ltb (num x * den y) (num y * den x)
unfolding lt
lt_is nan y p q = absurd p
lt_is (inf s) y p q = absurd p
lt_is (fin s m e) nan p q = absurd q
lt_is (fin s m e) (inf t) p q = absurd q
lt_is (fin false m e) (fin false n d) p q = refl
lt_is (fin false m e) (fin true n d) p q = sym (below_none _ _ (none_times (n * up d) (down e) q))
lt_is (fin true m e) (fin false n d) p q = rw (none_times (m * up e) (down d) p, zero-add (n * up d * down e)) refl
lt_is (fin true m e) (fin true n d) p q =
    below_none _ _ (none_times (m * up e) (down d) p) ∙ sym (below_none _ _ (none_times (n * up d) (down e) q))

-- A value and minus zero are equal exactly when their sizes are.
unlike_none : (a b : ℕ) → b ≡ 0 → level false a true b ≡ eqb a b
unlike_none a b h = elim (either (eqb a b)) [
  | inl t ↦ rw (t, eq-eqb a 0 (eqb-true a b t ∙ h)) refl
  | inr t ↦ rw t refl
]

eq_is : (x y : Float) → Amount x → Amount y → eq x y ≡ eqb (num x * den y) (num y * den x)
unfolding eq
eq_is nan y p q = absurd p
eq_is (inf s) y p q = absurd p
eq_is (fin s m e) nan p q = absurd q
eq_is (fin s m e) (inf t) p q = absurd q
eq_is (fin false m e) (fin false n d) p q = and-true _
eq_is (fin false m e) (fin true n d) p q = unlike_none _ _ (none_times (n * up d) (down e) q)
eq_is (fin true m e) (fin false n d) p q = rw (eq-eqb (m * up e * down d) 0 (none_times (m * up e) (down d) p)) (and-true _)
eq_is (fin true m e) (fin true n d) p q = and-true _

-- x isn't below y: as a fraction y is at most x.
not-lt→cross : (x y : Float) → Amount x → Amount y → lt x y ≡ false → num y * den x ≤ num x * den y
not-lt→cross x y p q h = ltb-false (num x * den y) (num y * den x) (sym (lt_is x y p q) ∙ h)

cross→not-lt : (x y : Float) → Amount x → Amount y → num y * den x ≤ num x * den y → lt x y ≡ false
cross→not-lt x y p q h = lt_is x y p q ∙ le-ltb (num x * den y) (num y * den x) h

not_lt_trans : (x y z : Float) → Amount x → Amount y → Amount z → lt x y ≡ false → lt y z ≡ false → lt x z ≡ false
not_lt_trans x y z p q r h k =
    cross→not-lt x z p r (through (num z) (num y) (num x) (den z) (den y) (den x) (den_pos y) (not-lt→cross y z q r k) (not-lt→cross x y p q h))

-- x is at most y exactly when y isn't below x.
not-lt→le : (x y : Float) → Amount x → Amount y → lt y x ≡ false → le x y ≡ true
unfolding le
not-lt→le x y p q h =
    elim (eq-or-lt_of_le (not-lt→cross y x q p h)) [
      | inl e ↦ or_right (lt x y) (eq_is x y p q ∙ eq-eqb (num x * den y) (num y * den x) e)
      | inr l ↦ or_left (eq x y) (lt_is x y p q ∙ lt-ltb (num x * den y) (num y * den x) l)
    ]

le→not-lt : (x y : Float) → Amount x → Amount y → le x y ≡ true → lt y x ≡ false
unfolding le
le→not-lt x y p q h =
    cross→not-lt y x q p (elim (or_read (lt x y) h) [
      | inl t ↦ le_of_lt (ltb-true (num x * den y) (num y * den x) (sym (lt_is x y p q) ∙ t))
      | inr t ↦ le_of_eq (eqb-true (num x * den y) (num y * den x) (sym (eq_is x y p q) ∙ t))
    ])

-- The constants, written out.
zero_is : float 0 ≡ fin false 0 (pos 0)
unfolding of_int
zero_is = refl

percent_is : MOST_PERCENT ≡ fin false 25 (pos 2)
unfolding of_int
percent_is = refl

grams_is : MOST_GRAMS ≡ fin false 125 (pos 3)
unfolding of_int
grams_is = refl

ten_is : GRAMS_A_PERCENT ≡ fin false 5 (pos 1)
unfolding of_int
ten_is = refl

zero_amount : Amount (float 0)
zero_amount = subst Amount (sym zero_is) tt

percent_amount : Amount MOST_PERCENT
percent_amount = subst Amount (sym percent_is) tt

-- What has a sign and isn't below zero is minus zero.
minus_none : (m : ℕ) (e : ℤ) → lt (fin true m e) (fin false 0 (pos 0)) ≡ false → m * up e ≡ 0
unfolding lt
minus_none m e h = let l = ltb-false 0 (m * up e * 1 + 0 * 1 * down e) h in omega arith

-- What passes `withinb` is finite, not below zero and not above `most`.
pub within_read : (most p : Float) → withinb most p ≡ true → (finite p ≡ true) × (lt p (float 0) ≡ false) × (lt most p ≡ false)
unfolding withinb
within_read most p h =
    let f = and_read (finite p) h in
    let b = and_read (not (lt p (float 0))) f.1 in
    (f.0, not_read _ b.0, not_read _ b.1)

within_amount : (most p : Float) → withinb most p ≡ true → Amount p
unfolding withinb
within_amount most nan h = absurd (never h refl)
within_amount most (inf s) h = absurd (never h refl)
within_amount most (fin false m e) h = tt
within_amount most (fin true m e) h =
    minus_none m e (subst (λ z. lt (fin true m e) z ≡ false) zero_is (within_read most (fin true m e) h).1)

-- A value within the bounds is at least zero and at most a hundred percent.
pub within_bounds : (p : Float) → Within p → (le (float 0) p ≡ true) × (le p MOST_PERCENT ≡ true)
within_bounds p h =
    let a = within_amount MOST_PERCENT p h in (
      not-lt→le (float 0) p zero_amount a (within_read MOST_PERCENT p h).1,
      not-lt→le p MOST_PERCENT a percent_amount (within_read MOST_PERCENT p h).2,
    )

-- And the other way round.
amount_finite : (x : Float) → Amount x → finite x ≡ true
amount_finite nan h = absurd h
amount_finite (inf s) h = absurd h
amount_finite (fin s m e) h = refl

bounded_amount : (x : Float) (n : ℕ) (d : ℤ) → le (fin false 0 (pos 0)) x ≡ true → le x (fin false n d) ≡ true → Amount x
unfolding le
bounded_amount nan n d h k = absurd (never h refl)
bounded_amount (inf true) n d h k = absurd (never h refl)
bounded_amount (inf false) n d h k = absurd (never k refl)
bounded_amount (fin false m e) n d h k = tt
bounded_amount (fin true m e) n d h k = let z = eqb-true (0 * 1 * down e) (m * up e * 1) (and_read _ h).0 in omega arith

bounded_within : (x : Float) → le (float 0) x ≡ true → le x MOST_PERCENT ≡ true → Within x
unfolding withinb
bounded_within x h k =
    let a = bounded_amount x 25 (pos 2) (subst (λ z. le z x ≡ true) zero_is h) (subst (λ z. le x z ≡ true) percent_is k) in
    and_make (amount_finite x a) (and_make (ap not (le→not-lt (float 0) x zero_amount a h)) (ap not (le→not-lt x MOST_PERCENT a percent_amount k)))

-- A tenth, as a fraction that is rounded.
tenth_is : (s : Bool) (m : ℕ) (e : ℤ) → div binary32 (fin s m e) (fin false 5 (pos 1)) ≡ round binary32 s (m * up e * 1) (5 * 2 * down e)
unfolding div
tenth_is true m e = refl
tenth_is false m e = refl

tenth_at_most : (a b : ℕ) → a * 1 ≤ 125 * 8 * b → a * 1 * 1 ≤ 100 * (5 * 2 * b)
tenth_at_most a b h = omega arith

-- A fraction from zero to a hundred rounds to a value within the bounds.
rounds_within : (a b : ℕ) → 0 < b → a * 1 ≤ 100 * b → Within (round binary32 false a b)
rounds_within a b B h =
    bounded_within (round binary32 false a b)
    (unfold of_int in is_true _ (round_mono binary32 0 1 a b (lit< tt) B (omega arith)))
    (unfold of_int in is_true _ (round_mono binary32 a b 100 1 B (lit< tt) h))

minus_zero_within : Within (round binary32 true 0 1)
unfolding withinb of_int lt
minus_zero_within = refl

tenth_within : (s : Bool) (m : ℕ) (e : ℤ) → Amount (fin s m e) → lt (fin false 125 (pos 3)) (fin s m e) ≡ false → Within (round binary32 s (m * up e * 1) (5 * 2 * down e))
tenth_within false m e a h = rounds_within (m * up e * 1) (5 * 2 * down e) (mul-pos (lit< tt) (down_pos e)) (tenth_at_most (m * up e) (down e) (not-lt→cross (fin false 125 (pos 3)) (fin false m e) tt a h))
tenth_within true m e a h =
    subst Within (sym (round_same binary32 true (m * up e * 1) (5 * 2 * down e) 0 1 (mul-pos (lit< tt) (down_pos e)) (lit< tt) (omega arith))) minus_zero_within

-- A tenth of what lies within the bounds in grams lies within those in percent.
grams_within : (g : Float) → withinb MOST_GRAMS g ≡ true → Within (div binary32 g GRAMS_A_PERCENT)
grams_within nan h = absurd (within_amount MOST_GRAMS nan h)
grams_within (inf s) h = absurd (within_amount MOST_GRAMS (inf s) h)
grams_within (fin s m e) h =
    subst (λ z. Within (div binary32 (fin s m e) z)) (sym ten_is)
    (subst Within (sym (tenth_is s m e))
    (tenth_within s m e (within_amount MOST_GRAMS (fin s m e) h) (subst (λ z. lt z (fin s m e) ≡ false) grams_is (within_read MOST_GRAMS (fin s m e) h).2)))

-- Whatever two words stand for, its value in percent lies within the bounds.
pub percent_within : (kind bits : ℕ) → All Within (percent_in (decode kind bits))
unfolding decode
percent_within kind bits =
    elim (either (eqb kind MISSING && eqb bits 0)) [
      | inl t ↦ rw t tt
      | inr f ↦ rw f (elim (either (eqb kind PERCENT && withinb MOST_PERCENT x)) [
        | inl t ↦ rw t ((and_read (eqb kind PERCENT) t).1, tt)
        | inr f ↦ rw f (elim (either (eqb kind GRAMS && withinb MOST_GRAMS x)) [
          | inl t ↦ rw t (grams_within x (and_read (eqb kind GRAMS) t).1, tt)
          | inr f ↦ rw f tt
        ])
      ])
    ]
  where
    x : Float
    x = of_bits binary32 bits

-- And so do the values of all samples that have one.
pub present_within : (ss : List Sample) → All Within (present ss)
unfolding present flat_map
present_within [] = tt
present_within (s ∷ ss) = all_append Within (percent_in (reading_of s)) (present ss) (percent_within s.kind s.bits) (present_within ss)

below_one_way : (s : Bool) (a : ℕ) (t : Bool) (b : ℕ) → below s a t b ≡ true → below t b s a ≡ false
below_one_way false a false b h = le-ltb b a (le_of_lt (ltb-true a b h))
below_one_way false a true b h = absurd (never h refl)
below_one_way true a false b h = refl
below_one_way true a true b h = le-ltb a b (le_of_lt (ltb-true b a h))

-- Of two floats at most one is below the other.
pub not_both_below : (p q : Float) → lt p q ≡ true → lt q p ≡ false
unfolding lt
not_both_below nan q h = absurd (never h refl)
not_both_below (inf s) nan h = absurd (never h refl)
not_both_below (inf true) (inf true) h = refl
not_both_below (inf true) (inf false) h = refl
not_both_below (inf false) (inf t) h = absurd (never h refl)
not_both_below (inf true) (fin t n d) h = refl
not_both_below (inf false) (fin t n d) h = absurd (never h refl)
not_both_below (fin s m e) nan h = refl
not_both_below (fin s m e) (inf true) h = absurd (never h refl)
not_both_below (fin s m e) (inf false) h = refl
not_both_below (fin s m e) (fin t n d) h = below_one_way s (m * up e * down d) t (n * up d * down e) h

-- If p is below q and r isn't, then p is below r.
pub below_between : (p q r : Float) → Within p → Within q → Within r → lt p q ≡ true → lt r q ≡ false → lt p r ≡ true
below_between p q r a b c h k =
    so (λ f. never h (not_lt_trans p r q (within_amount MOST_PERCENT p a) (within_amount MOST_PERCENT r c) (within_amount MOST_PERCENT q b) f k))

-- If p is above q and r isn't, then p is above r.
pub above_between : (p q r : Float) → Within p → Within q → Within r → lt q p ≡ true → lt q r ≡ false → lt r p ≡ true
above_between p q r a b c h k =
    so (λ f. never h (not_lt_trans q r p (within_amount MOST_PERCENT q b) (within_amount MOST_PERCENT r c) (within_amount MOST_PERCENT p a) k f))

-- Of two equal floats neither is below the other.
level_neither : (s : Bool) (a : ℕ) (t : Bool) (b : ℕ) → level s a t b ≡ true → (below s a t b ≡ false) × (below t b s a ≡ false)
level_neither s a t b h =
    let p = and_read (eqb a b) h in
    subst (λ k. (below s a t k ≡ false) × (below t k s a ≡ false)) (eqb-true a b p.0) (go s t p.1)
  where
    itself : ltb a a ≡ false
    itself = le-ltb a a (le_refl a)

    none : eqb a 0 ≡ true → ltb 0 (a + a) ≡ false
    none k = le-ltb 0 (a + a) (let z = eqb-true a 0 k in omega arith)

    go : (s t : Bool) → (beq s t || eqb a 0) ≡ true → (below s a t a ≡ false) × (below t a s a ≡ false)
    go true true k = (itself, itself)
    go true false k = (none k, refl)
    go false true k = (refl, none k)
    go false false k = (itself, itself)

pub equal_neither : (p q : Float) → eq p q ≡ true → (lt p q ≡ false) × (lt q p ≡ false)
unfolding eq lt
equal_neither nan q h = absurd (never h refl)
equal_neither (inf s) nan h = absurd (never h refl)
equal_neither (inf true) (inf true) h = (refl, refl)
equal_neither (inf true) (inf false) h = absurd (never h refl)
equal_neither (inf false) (inf true) h = absurd (never h refl)
equal_neither (inf false) (inf false) h = (refl, refl)
equal_neither (inf s) (fin t n d) h = absurd (never h refl)
equal_neither (fin s m e) nan h = absurd (never h refl)
equal_neither (fin s m e) (inf t) h = absurd (never h refl)
equal_neither (fin s m e) (fin t n d) h = level_neither s (m * up e * down d) t (n * up d * down e) h
