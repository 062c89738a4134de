-- Function: `is_served` (src/leader.rt).
-- Why it holds: The documents are compared first, and the starts only within one document, as
-- `aboveb` does. No leader stands before a fresh place.
-- What would break it: A comparison the wrong way round, or one that takes equal starts, would be
-- caught at its return.
use Rattle.std.proofs.Common.{arith}
use Rattle.std.proofs.lemmas.Bool.Decides.{nat_tests}
use Rattle.paging.specs.Key.{aboveb}
use Rattle.tickets.specs.Leaders.{servedb}
use Rattle.tickets.proofs.leader.is_served.Goals as goal

pub returns-in-Fresh : goal.returns-in-Fresh
unfolding servedb
returns-in-Fresh c = rw c.in-Fresh.is

pub returns-in-After : goal.returns-in-After
unfolding servedb aboveb
returns-in-After c = rw c.in-After.is (grind (arith, nat_tests))
