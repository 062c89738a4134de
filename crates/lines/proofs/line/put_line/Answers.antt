-- Function: `put_line` (src/line.rt).
-- Why it holds: The three fields are put one after the other. Each has at most eleven bytes, so
-- there is room.
-- What would break it: A field of another number, or one left out, would be caught at the return.
use mathlib.Core.List.{[], ◌∷◌, ◌++◌}
use Rattle.nodes.specs.declared.node.Node.{Node}
use Rattle.lines.specs.declared.text.Writer.{Writer}
use Rattle.lines.specs.Line.{BLANK, LINE_FEED, decimal, pair_with, pair_line}
use Rattle.lines.specs.Private.Puts.{Puts}
use Rattle.lines.proofs.Fields.{put_field}
use Rattle.lines.proofs.line.put_line.Goals as goal

-- The three fields make the line.
whole : {before one two three : Writer} (x y : Node)
    → Puts before (decimal x.document ++ BLANK ∷ []) one
    → Puts one (decimal x.start ++ BLANK ∷ []) two
    → Puts two (decimal y.start ++ LINE_FEED ∷ []) three
    → Puts before (pair_line (pair_with x y)) three
unfolding pair_line
whole x y p q r =
    let second = put_field (decimal x.document) BLANK p x.start BLANK q in
    put_field (decimal x.document ++ BLANK ∷ decimal x.start) BLANK second y.start LINE_FEED r

pub returns : goal.returns
returns c = whole c.args.ancestor c.args.descendant c.put_field.ensures c.put_field-2.ensures c.put_field-3.ensures
