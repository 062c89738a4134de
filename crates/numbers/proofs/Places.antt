-- Why it holds: Whether the lent bytes reach as far as the part's first byte is the definition's
-- own test.
-- What would break it: A part one byte too far on, or in another block, would be caught here.
use mathlib.Core.Path.{◌≡◌}
use Prim.Native.Nat.{ℕ, ◌+◌, ◌≤◌, ◌<◌}
use native.Mathlib.Omega.{arith}
use borrow.Author.Tests.{le-leb, lt-leb}
use Rattle.numbers.specs.Part.{place_in}

-- A part that begins no later than the end lies `from` bytes further on.
pub before_the_end : (start : ℕ × ℕ) (size from at : ℕ) → from ≤ size → at ≡ start.1 + from → (start.0, at) ≡ place_in start size from
unfolding place_in
before_the_end start size from at h q = rw (le-leb from size h) (λ k. (start.0, q k))

-- A part that would begin after the end lies at the beginning.
pub at_the_beginning : (start : ℕ × ℕ) (size from : ℕ) → size < from → start ≡ place_in start size from
unfolding place_in
at_the_beginning start size from h =
    let e : start.1 ≡ start.1 + 0 = omega arith in
    rw (lt-leb from size h) (λ k. (start.0, e k))
