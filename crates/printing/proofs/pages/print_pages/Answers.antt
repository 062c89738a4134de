-- Function: `print_pages` (src/pages.rt).
-- Why it holds: The output has room for the pairs of a page, and the text has room for the longest
-- line of each.
-- What would break it: A text too short for its page, or a page without room, would be caught at
-- the call.
use mathlib.Core.Path.{◌≡◌, refl}
use mathlib.Core.List.{List}
use Prim.Native.Nat.{ℕ, ◌*◌, ◌≤◌, ◌<◌}
use native.Mathlib.Omega.{arith}
use lib.ListN.{length, replicate, length-replicate}
use Rattle.tickets.specs.PairWords.{PAIR_WORDS, room}
use Rattle.lines.specs.Line.{LINE_BYTES}
use Rattle.printing.specs.Print.{PAGE_PAIRS}
use Rattle.printing.proofs.pages.print_pages.Goals as goal

abbrev zeros : ℕ → List ℕ
zeros n = replicate n 0

fitting : (words bytes : ℕ) → words ≡ PAIR_WORDS * PAGE_PAIRS → bytes ≡ LINE_BYTES * PAGE_PAIRS
    → (0 < room (zeros words)) × (LINE_BYTES * room (zeros words) ≤ length (zeros bytes))
fitting words bytes p q =
    let l = length-replicate {A = ℕ} words 0 in
    let m = length-replicate {A = ℕ} bytes 0 in
    (omega arith, omega arith)

pub print_all-requires : goal.print_all-requires
print_all-requires c = fitting (PAIR_WORDS * PAGE_PAIRS) (LINE_BYTES * PAGE_PAIRS) refl refl
