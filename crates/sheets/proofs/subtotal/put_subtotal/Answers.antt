-- Function: `put_subtotal` (src/subtotal.rt).
-- Why it holds: The three stores are those of the row's words, at three times the zone's index.
-- What would break it: A word stored one off would be caught at the return. An index too large
-- would be caught at a store.
use Prim.Native.Nat.{ℕ, ◌+◌, ◌*◌}
use mathlib.Core.Path.{◌≡◌}
use mathlib.Core.List.{List}
use native.Mathlib.Numerals.{towards_suc}
use lib.ListN.{set}
use lib.Seq.{sets}
use Rattle.sheets.specs.declared.subtotal.Subtotal.{Subtotal}
use Rattle.sheets.specs.Sheet.{subtotal_words}
use Rattle.sheets.proofs.subtotal.put_subtotal.Goals as goal

three_stores : (ws : List ℕ) (i : ℕ) (t : Subtotal)
    → set (set (set ws (3 * i) t.samples) (3 * i + 1) t.present) (3 * i + 2) t.sum ≡ sets ws (3 * i) (subtotal_words t)
unfolding subtotal_words
three_stores ws i t = simp towards_suc

pub returns : goal.returns
returns c = three_stores _ _ _
