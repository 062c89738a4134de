-- Function: `body_in` (src/reader.rt).
-- Why it holds: `Reader::open` gives a reader over what is kept of the bytes, and `body` gives the
-- tag's body from that reader. Only the contracts of these two are used.
-- What would break it: Another reader than the one that `Reader::open` returns, or another tag than
-- the caller's, would be caught at the return.
use Rattle.readers.specs.Reader.{kept_body_up_to, kept_place_up_to}
use Rattle.readers.proofs.reader.body_in.Goals as goal

pub returns : goal.returns
unfolding kept_body_up_to kept_place_up_to
returns c =
    let o = c.open.ensures in
    record {
      contents = rw (o.contents, o.lists) at c.body.ensures.contents;
      place = rw (o.place, o.contents, o.lists) at c.body.ensures.place;
    }
