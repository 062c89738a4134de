-- Function: `taken_in` (src/range.rt).
-- Why it holds: The lower and the higher of two values are those of the definition. Where nothing
-- was present, the value is both the low and the high.
-- What would break it: A low taken for a high would be caught at the first return. A first value
-- compared with what stood there before would be caught at the second.
use mathlib.Core.Path.{sym, ap}
use Rattle.std.specs.Prelude.{Option}
use Rattle.ranges.specs.declared.range.Range.{Range}
use Rattle.ranges.specs.Private.Passing.{taken_in}
use Rattle.ranges.proofs.range.taken_in.Goals as goal

pub returns-in-Some : goal.returns-in-Some
returns-in-Some c =
    let a = c.args in
    rw (c.lower_of.ensures, c.higher_of.ensures) (sym (ap (λ (r : Option Range). taken_in r a.percent) c.in-Some.is))

pub returns-in-None : goal.returns-in-None
returns-in-None c = sym (ap (λ (r : Option Range). taken_in r c.args.percent) c.in-None.is)
