-- Function: `Reader::open` (src/reader.rt).
-- Why it holds: `over` makes the reader of the part that `kept_part` keeps and the number that
-- `list_count` reads in it. Only the contracts of these three are used.
-- What would break it: A reader over all the bytes, or with the number of lists that refused bytes
-- give, would be caught at the return.
use mathlib.Core.Path.{ap, ◌∙◌}
use Rattle.contents.specs.Contents.{lists_in}
use Rattle.readers.specs.Reader.{kept_lists_up_to}
use Rattle.readers.proofs.reader.Reader.open.Goals as goal

pub returns : goal.returns
unfolding kept_lists_up_to
returns c =
    let book = c.over.ensures.book in
    let part = c.kept_part-part.ensures in
    record {
      contents = ap (λ s. s.now) book ∙ part.contents;
      place = ap (λ s. s.ref_ptr) book ∙ part.place;
      lists = c.over.ensures.lists ∙ (c.list_count.ensures ∙ ap lists_in part.contents);
    }
