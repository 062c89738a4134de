-- Function: `is_same_row` (src/unnumber.rt).
-- Why it holds: Derived equality compares the five words one by one, as `same_rowb` does.
-- What would break it: A word left out, or compared with itself, would be caught at the return.
use mathlib.Core.Path.{◌≡◌, refl, ◌∙◌}
use mathlib.Core.Bool.{◌&&◌}
use lib.Dec.{eqb}
use Rattle.nodes.specs.Node.{sameb}
use Rattle.marks.specs.declared.row.Row.{Row}
use Rattle.marks.specs.Back.{same_rowb}
use Rattle.marks.proofs.unnumber.is_same_row.Goals as goal

-- The rows are the same where their words are.
same_words : (x y : Row)
    → ((eqb x.node.document y.node.document && (eqb x.node.start y.node.start && (eqb x.node.end y.node.end && eqb x.node.level y.node.level)))
    && eqb x.tag y.tag) ≡ same_rowb x y
unfolding same_rowb sameb
same_words x y = refl

pub returns : goal.returns
returns c = c.eq.ensures ∙ same_words _ _
