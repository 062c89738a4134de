-- The table of two-digit numbers from which decimals are written.
use Rattle.std.specs.Prelude.{ℕ, ◌+◌, ◌*◌, ◌/◌, ◌%◌, ◌<◌, ◌≡◌, List, [], ◌∷◌, get_or}

-- The two digits of a number below a hundred.
unfoldable pub two_digits : ℕ → List ℕ
two_digits n = (48 + n / 10) ∷ (48 + n % 10) ∷ []

-- A table has the two digits of each number below a hundred, one number after the other.
unfoldable pub Tabled : List ℕ → Type 0
Tabled table = (n : ℕ) → n < 100 → (get_or table (2 * n) 0 ≡ 48 + n / 10) × (get_or table (2 * n + 1) 0 ≡ 48 + n % 10)
