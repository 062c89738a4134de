-- Function: `put_refusal` (src/line.rt).
-- Why it holds: The word and its blank are eight bytes, the number's field at most eleven and the
-- name at most eight. So the line has room.
-- What would break it: Another number, or a name with its blanks, would be caught at the return.
use mathlib.Core.Path.{◌≡◌, refl, subst}
use mathlib.Core.List.{List, [], ◌∷◌, ◌++◌}
use Prim.Native.Nat.{ℕ, ◌<◌}
use native.Mathlib.Omega.{arith}
use lib.ListN.{length}
use Rattle.answers.specs.Answer.{padded, name_of, letter_at}
use Rattle.laws.specs.Choose.{keep}
use Rattle.lines.specs.declared.text.Writer.{Writer}
use Rattle.lines.specs.Line.{BLANK, LINE_FEED, decimal, word, unfilled, refusal_line}
use Rattle.lines.specs.Private.Puts.{Puts}
use Rattle.lines.proofs.Blanks.{unfilled_few}
use Rattle.lines.proofs.Putting.{Begins, put_next, put_parted, put_written}
use Rattle.lines.proofs.Fields.{field_32, put_field}
use Rattle.lines.proofs.line.put_refusal.Goals as goal

-- The word's bytes, the field, the name and the line feed make the line.
whole : {before one two three four : Writer} (n : ℕ) (name : List ℕ) → n < 4294967296 → before.at ≡ 0 → length before.text.now ≡ 32
    → length name ≡ 8 → name ≡ name_of n
    → Puts before (114 ∷ 101 ∷ 102 ∷ 117 ∷ 115 ∷ 101 ∷ 100 ∷ 32 ∷ []) one
    → Puts one (decimal n ++ BLANK ∷ []) two
    → Puts two (unfilled name) three
    → Puts three (LINE_FEED ∷ []) four
    → Begins before.text.now (refusal_line n) four.text.now four.at
unfolding refusal_line word unfilled keep padded letter_at
whole {before} {four = four} n name h z l m e p q r t =
    let second = put_field (word "refused") BLANK p n BLANK q in
    let third = put_parted (word "refused" ++ BLANK ∷ decimal n) BLANK second (unfilled name) r in
    let few = field_32 n BLANK h in
    let fewer = unfilled_few name in
    put_written (refusal_line n) z (omega arith)
    (subst (λ ws. Puts before (word "refused" ++ BLANK ∷ decimal n ++ BLANK ∷ unfilled ws ++ LINE_FEED ∷ []) four) e
    (put_next third (LINE_FEED ∷ []) t))

pub returns : goal.returns
returns c =
    let name = c.name_of-name in
    whole c.args.answer name.result (omega arith) refl (omega arith) (omega arith) name.ensures
    c.put_bytes.ensures c.put_field.ensures c.put_unfilled.ensures c.put_byte.ensures
