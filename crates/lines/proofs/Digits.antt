-- Why it holds: A number of three digits or more has those of its hundredth and then two more. A
-- number below a power of ten has no more digits than the power has zeros.
-- What would break it: A digit left out, or one of another number, would be caught here.
use mathlib.Core.Path.{◌≡◌, refl, sym, ap, ◌∙◌}
use mathlib.Core.Logic.{inl, inr}
use mathlib.Core.List.{[], ◌∷◌, ◌++◌, append_assoc}
use Prim.Native.Nat.{ℕ, zero, suc, ◌+◌, ◌*◌, ◌/◌, ◌%◌, ◌≤◌, ◌<◌, zero-le}
use native.Mathlib.Omega.{arith}
use lib.Dec.{ltb}
use lib.ListN.{length, length-append}
use borrow.Author.Tests.{lt-ltb, le-ltb, ltb-false}
use Rattle.laws.proofs.Tests.{either}
use Rattle.lines.specs.Line.{MOST_DIGITS, digits_to, decimal}
use Rattle.lines.specs.Private.DigitTable.{two_digits}

-- The powers of ten.
unfoldable tens : ℕ → ℕ
tens zero = 1
tens (suc k) = 10 * tens k

few_digits : (most n k : ℕ) → n < tens k → 1 ≤ k → length (digits_to most n) ≤ k
unfolding digits_to tens
few_digits zero n k h p = zero-le
few_digits (suc most) n zero h p = absurd (omega arith)
few_digits (suc most) n (suc zero) h p = rw (lt-ltb n 10 h) p
few_digits (suc most) n (suc (suc k)) h p =
    elim (either (ltb n 10)) [
      | inl t ↦ rw t (omega arith)
      | inr t ↦ let l = ltb-false n 10 t in
          let m = few_digits most (n / 10) (suc k) (omega arith) (omega arith) in
          let e = length-append (digits_to most (n / 10)) ((48 + n % 10) ∷ []) in
          rw t (omega arith)
    ]

-- A limit above the number of digits changes none of them.
digits_more : (most n : ℕ) → n < tens most → 1 ≤ most → digits_to (suc most) n ≡ digits_to most n
unfolding digits_to tens
digits_more zero n h p = absurd (omega arith)
digits_more (suc zero) n h p = rw (lt-ltb n 10 h) refl
digits_more (suc (suc most)) n h p =
    elim (either (ltb n 10)) [
      | inl t ↦ rw t refl
      | inr t ↦ rw t (ap (λ ds. ds ++ (48 + n % 10) ∷ []) (digits_more (suc most) (n / 10) (omega arith) (omega arith)))
    ]

-- A number of one digit, one of two, and one of more.
pub decimal_one : (n : ℕ) → n < 10 → decimal n ≡ (48 + n) ∷ []
unfolding decimal digits_to
decimal_one n h = rw (lt-ltb n 10 h) refl

pub decimal_two : (n : ℕ) → 10 ≤ n → n < 100 → decimal n ≡ two_digits n
unfolding decimal digits_to two_digits
decimal_two n h l = rw (le-ltb n 10 h, lt-ltb (n / 10) 10 (omega arith)) refl

two_last : (n k : ℕ) → n / 10 ≡ k → (48 + k % 10) ∷ (48 + n % 10) ∷ [] ≡ two_digits (n % 100)
unfolding two_digits
two_last n k e =
    let a : k % 10 ≡ n % 100 / 10 = omega arith in
    let b : n % 10 ≡ n % 100 % 10 = omega arith in
    rw (a, b) refl

digits_two : (most n : ℕ) → 100 ≤ n → digits_to (suc (suc most)) n ≡ digits_to most (n / 100) ++ two_digits (n % 100)
unfolding digits_to
digits_two most n h =
    let tenth = n / 10 in
    let hundredth : tenth / 10 ≡ n / 100 = omega arith in
    rw (le-ltb n 10 (omega arith), le-ltb tenth 10 (omega arith))
    (append_assoc (digits_to most (tenth / 10)) ((48 + tenth % 10) ∷ []) ((48 + n % 10) ∷ [])
    ∙ λ i. digits_to most (hundredth i) ++ two_last n tenth refl i)

pub decimal_more : (n : ℕ) → 100 ≤ n → n < 18446744073709551616 → decimal n ≡ decimal (n / 100) ++ two_digits (n % 100)
unfolding decimal tens
decimal_more n h l =
    let m = n / 100 in
    let more = digits_more 19 m (omega arith) (omega arith) ∙ digits_more 18 m (omega arith) (omega arith) in
    digits_two 18 n h ∙ ap (λ ds. ds ++ two_digits (n % 100)) (sym more)

-- And how many digits it has.
pub length_one : (n : ℕ) → n < 10 → length (decimal n) ≡ 1
length_one n h = ap length (decimal_one n h)

pub length_two : (n : ℕ) → 10 ≤ n → n < 100 → length (decimal n) ≡ 2
unfolding two_digits
length_two n h l = ap length (decimal_two n h l)

pub length_more : (n : ℕ) → 100 ≤ n → n < 18446744073709551616 → length (decimal n) ≡ length (decimal (n / 100)) + 2
unfolding two_digits
length_more n h l = ap length (decimal_more n h l) ∙ length-append (decimal (n / 100)) (two_digits (n % 100))

-- A 32-bit number has at most ten digits, and a 64-bit one at most twenty.
pub digits_32 : (n : ℕ) → n < 4294967296 → length (decimal n) ≤ 10
unfolding decimal tens
digits_32 n h = few_digits MOST_DIGITS n 10 (omega arith) (omega arith)

pub digits_64 : (n : ℕ) → n < 18446744073709551616 → length (decimal n) ≤ 20
unfolding decimal tens
digits_64 n h = few_digits MOST_DIGITS n 20 (omega arith) (omega arith)

-- For the tactics: how many digits a number has.
pub ruleset digit_laws = (length_one, length_two, length_more, digits_32, digits_64)
