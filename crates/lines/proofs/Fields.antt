-- Why it holds: A field is a number in decimal and a byte after it. The lines are fields and words,
-- and that byte parts them.
-- What would break it: A line longer than its room, or a field in another's place, would be caught
-- here.
use mathlib.Core.Path.{sym, subst}
use mathlib.Core.List.{List, [], ◌∷◌, ◌++◌, append_assoc}
use Prim.Native.Nat.{ℕ, ◌≤◌, ◌<◌}
use native.Mathlib.Omega.{arith}
use lib.ListN.{length, length-append}
use Rattle.nodes.specs.declared.node.Node.{Node}
use Rattle.lines.specs.Line.{BLANK, LINE_FEED, LINE_BYTES, decimal, pair_with, pair_line}
use Rattle.lines.proofs.Blanks.{unfilled_few}
use Rattle.lines.proofs.Digits.{digits_32, digits_64}
use Rattle.lines.specs.declared.text.Writer.{Writer}
use Rattle.lines.specs.Private.Puts.{Puts}
use Rattle.lines.proofs.Putting.{put_parted}

-- A 32-bit number and a byte take at most eleven bytes, a 64-bit one and a byte at most twenty-one.
pub field_32 : (n b : ℕ) → n < 4294967296 → length (decimal n ++ b ∷ []) ≤ 11
field_32 n b h = omega (arith, length-append (decimal n) (b ∷ []), digits_32 n h)

pub field_64 : (n b : ℕ) → n < 18446744073709551616 → length (decimal n ++ b ∷ []) ≤ 21
field_64 n b h = omega (arith, length-append (decimal n) (b ∷ []), digits_64 n h)

-- So three of them fill no more than a line's room.
pub line_few : (x y : Node) → x.document < 4294967296 → x.start < 4294967296 → y.start < 4294967296 → length (pair_line (pair_with x y)) ≤ LINE_BYTES
unfolding pair_line
line_few x y p q r =
    let one = decimal x.document in
    let two = decimal x.start in
    let three = decimal y.start in
    omega (
      arith,
      digits_32 x.document p,
      digits_32 x.start q,
      digits_32 y.start r,
      length-append one (BLANK ∷ two),
      length-append (one ++ BLANK ∷ two) (BLANK ∷ three),
      length-append (one ++ BLANK ∷ two ++ BLANK ∷ three) (LINE_FEED ∷ []),
    )

-- A field is put after a byte that parts it from what was put before.
pub put_field : {before after : Writer} (us : List ℕ) (a : ℕ) → Puts before (us ++ a ∷ []) after
    → {later : Writer} (n b : ℕ) → Puts after (decimal n ++ b ∷ []) later
    → Puts before (us ++ a ∷ decimal n ++ b ∷ []) later
put_field {before} us a p {later} n b q =
    subst (λ ws. Puts before ws later) (sym (append_assoc us (a ∷ decimal n) (b ∷ []))) (put_parted us a p (decimal n ++ b ∷ []) q)

-- For the tactics: how long a line's parts are.
pub ruleset field_laws = (digits_32, digits_64, field_32, field_64, unfilled_few)
