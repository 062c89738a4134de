-- Why it holds: A table has the two digits of each number below a hundred if a test of all of them
-- passes. That test is computed.
-- What would break it: A wrong digit in the table, or one in another's place, would be caught where
-- the table is lent.
use mathlib.Core.Path.{◌≡◌}
use mathlib.Core.Logic.{inl, inr}
use mathlib.Core.Bool.{Bool, true, ◌&&◌}
use mathlib.Core.List.{List}
use Prim.Native.Nat.{ℕ, zero, suc, ◌+◌, ◌*◌, ◌/◌, ◌%◌, ◌<◌}
use native.Mathlib.Nat.{not-suc-le-zero}
use native.Mathlib.Omega.{arith}
use lib.Dec.{eqb}
use lib.ListN.{get_or}
use borrow.Author.Tests.{eqb-true, eqb-false}
use Rattle.laws.proofs.Tests.{either, and_read}
use Rattle.lines.specs.Private.DigitTable.{Tabled}

-- Every number below a bound passes a test.
abbrev pub each : (ℕ → Bool) → ℕ → Bool
each test zero = true
each test (suc k) = test k && each test k

each_at : (test : ℕ → Bool) (most k : ℕ) → each test most ≡ true → k < most → test k ≡ true
each_at test zero k h l = absurd (not-suc-le-zero l)
each_at test (suc most) k h l =
    let both = and_read (test most) h in
    elim (either (eqb k most)) [
      | inl e ↦ rw (eqb-true k most e) both.0
      | inr e ↦ let other = eqb-false k most e in each_at test most k both.1 (omega arith)
    ]

-- The two digits of a number are at its place.
abbrev pub there : List ℕ → ℕ → Bool
there table n = eqb (get_or table (2 * n) 0) (48 + n / 10) && eqb (get_or table (2 * n + 1) 0) (48 + n % 10)

pub tabled : (table : List ℕ) → each (there table) 100 ≡ true → Tabled table
unfolding Tabled
tabled table h n l =
    let both = and_read (eqb (get_or table (2 * n) 0) (48 + n / 10)) (each_at (there table) 100 n h l) in
    (eqb-true (get_or table (2 * n) 0) (48 + n / 10) both.0, eqb-true (get_or table (2 * n + 1) 0) (48 + n % 10) both.1)
