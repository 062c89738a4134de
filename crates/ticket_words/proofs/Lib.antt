-- `Reached` says that the words which come back stand for the place reached. `Followed` says that a
-- listing which a caller follows by the words that come back is the one which the library follows.
-- `Only` says that no second answer satisfies a public contract. `Shown` is a law for the code: the
-- page of the ticket that words stand for.
pub mod Followed
pub mod Only
pub mod Reached
pub mod Shown
