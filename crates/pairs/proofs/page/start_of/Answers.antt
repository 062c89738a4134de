-- Function: `start_of` (src/page.rt).
-- Why it holds: The index is that of the first leader that isn't before the place's own. The number
-- tells which of its followers lie past the place.
-- What would break it: An index one off, or the number of another leader, would be caught at the
-- return.
use Rattle.pairs.proofs.SweepStart.{served_in_lem, started}
use Rattle.pairs.proofs.page.start_of.Goals as goal

pub returns : goal.returns
returns c =
    let a = c.args in
    let f = c.served_count-first.ensures in
    (started a.place a.leaders.now _ _ _ f c.node_at.ensures c.past_from.ensures, served_in_lem a.place a.leaders.now _ f)
