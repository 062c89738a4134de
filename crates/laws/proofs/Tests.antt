-- Why it holds: A Bool of several parts is taken apart and put together part by part. So a test
-- becomes plain facts about numbers.
-- What would break it: A wrong reading of `&&` or `||` would be caught here first. Nothing here
-- knows a node.
use mathlib.Core.Path.{◌≡◌, refl, sym, subst, ◌∙◌}
use mathlib.Core.Logic.{◌⊎◌, inl, inr}
use mathlib.Core.Bool.{Bool, true, false, cond, not, ◌&&◌, ◌||◌}
use lib.Dec.{T}

-- A Bool is true or false.
pub either : (b : Bool) → (b ≡ true) ⊎ (b ≡ false)
either true = inl refl
either false = inr refl

-- And not both.
pub never : {b : Bool} → b ≡ true → b ≡ false → ⊥
never {b} p q = subst T (sym p ∙ q) tt

-- What isn't false is true, and the other way round.
pub so : {b : Bool} → (b ≡ false → ⊥) → b ≡ true
so {b = true} h = refl
so {b = false} h = absurd (h refl)

pub not_so : {b : Bool} → (b ≡ true → ⊥) → b ≡ false
not_so {b = true} h = absurd (h refl)
not_so {b = false} h = refl

pub and_read : (a : Bool) {b : Bool} → (a && b) ≡ true → (a ≡ true) × (b ≡ true)
and_read true p = (refl, p)
and_read false p = absurd (never p refl)

pub and_make : {a b : Bool} → a ≡ true → b ≡ true → (a && b) ≡ true
and_make p q = rw (p, q)

-- One part that fails is enough.
pub and_left : {a : Bool} (b : Bool) → a ≡ false → (a && b) ≡ false
and_left b p = rw p

pub and_right : (a : Bool) {b : Bool} → b ≡ false → (a && b) ≡ false
and_right true q = q
and_right false q = refl

pub or_read : (a : Bool) {b : Bool} → (a || b) ≡ true → (a ≡ true) ⊎ (b ≡ true)
or_read true p = inl refl
or_read false p = inr p

pub or_left : {a : Bool} (b : Bool) → a ≡ true → (a || b) ≡ true
or_left b p = rw p

pub or_right : (a : Bool) {b : Bool} → b ≡ true → (a || b) ≡ true
or_right true q = refl
or_right false q = q

pub or_none : (a : Bool) {b : Bool} → (a || b) ≡ false → (a ≡ false) × (b ≡ false)
or_none true p = absurd (never refl p)
or_none false p = (refl, p)

pub not_read : (b : Bool) → not b ≡ true → b ≡ false
not_read true p = absurd (never p refl)
not_read false p = refl

pub not_none : (b : Bool) → not b ≡ false → b ≡ true
not_none true p = refl
not_none false p = absurd (never refl p)

-- Two tests that imply one another are equal.
pub same_test : {a b : Bool} → (a ≡ true → b ≡ true) → (b ≡ true → a ≡ true) → a ≡ b
same_test {a = true} p q = sym (p refl)
same_test {a = false} {b = true} p q = q refl
same_test {a = false} {b = false} p q = refl

-- What holds of both answers holds of the one that a test chooses.
pub chosen : {A : Type 0} (P : A → Type 0) (b : Bool) {x y : A} → P x → P y → P (cond b x y)
chosen P true p q = p
chosen P false p q = q

-- `|| (b && false)` at the end of a test changes nothing.
pub or_end : (a b : Bool) → a ≡ (a || (b && false))
or_end true b = refl
or_end false true = refl
or_end false false = refl
