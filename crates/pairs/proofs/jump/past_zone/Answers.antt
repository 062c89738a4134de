-- Function: `past_zone` (src/jump.rt).
-- Why it holds: Without links, or without a zone inside, the ancestor is passed by itself.
-- Otherwise its family is.
-- What would break it: A place that isn't one node further where nothing was tested would be caught
-- at its return.
use Rattle.pairs.proofs.Jumps.{jump_one}
use Rattle.pairs.proofs.jump.past_zone.Goals as goal

pub returns-then-not-this : goal.returns-then-not-this
returns-then-not-this g c =
    let p = c.requires in
    jump_one c.args.ancestors.now c.args.i p.1 p.2

pub returns-then-links-at : goal.returns-then-links-at
returns-then-links-at g c =
    let p = c.requires in
    jump_one c.args.ancestors.now c.args.i p.1 p.2

pub returns-then-links-at-2 : goal.returns-then-links-at-2
returns-then-links-at-2 g c =
    let p = c.requires in
    jump_one c.args.ancestors.now c.args.i p.1 p.2
