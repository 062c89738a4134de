-- Function: `put_two` (src/text.rt).
-- Why it holds: The table has both digits at twice the number, and they are stored one after the
-- other.
-- What would break it: A digit of another number, or one stored in the other's place, would be
-- caught at the return.
use mathlib.Core.Path.{◌≡◌, refl}
use mathlib.Core.List.{List}
use Prim.Native.Nat.{ℕ, ◌+◌, ◌*◌, ◌<◌}
use native.Mathlib.Numerals.{add-one}
use native.Mathlib.Omega.{arith}
use lib.ListN.{get_or, set}
use lib.Seq.{sets}
use Rattle.lines.specs.Private.DigitTable.{two_digits, Tabled}
use Rattle.lines.proofs.text.put_two.Goals as goal

both_put : (text : List ℕ) (at n : ℕ) (table : List ℕ) → n < 100 → Tabled table
    → set (set text at (get_or table (2 * n) 0)) (at + 1) (get_or table (2 * n + 1) 0) ≡ sets text at (two_digits n)
unfolding two_digits Tabled
both_put text at n table h t = rw (add-one at, (t n h).0, (t n h).1) refl

pub returns : goal.returns
returns c =
    let a = c.args in
    both_put a.text.now a.at a.number c.table-table.result.now (omega arith) c.table-table.ensures
