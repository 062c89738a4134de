-- Function: `print_total` (src/pages.rt).
-- Why it holds: The line is made in the buffer, whose length stays. As many of its bytes are
-- written as the line has.
-- What would break it: A part that reached beyond the buffer would be caught where the part is
-- taken.
use mathlib.Core.Path.{sym}
use lib.Seq.{length-take-le}
use Rattle.lines.specs.Line.{total_line}
use Rattle.printing.proofs.PageLines.{part_fits}
use Rattle.printing.proofs.pages.print_total.Goals as goal

pub slice_bounds-text-end : goal.slice_bounds-text-end
slice_bounds-text-end c = part_fits (total_line _) _ _ _ c.put_total-bytes.ensures.length c.put_total-bytes.ensures.text

pub slice_bounds-write_all-end : goal.slice_bounds-write_all-end
slice_bounds-write_all-end c =
    sym (length-take-le _ _ (part_fits (total_line _) _ _ _ c.put_total-bytes.ensures.length c.put_total-bytes.ensures.text))
