-- `BookLaws` says what a book's contents tell of its bodies, and how its verdict is found body by
-- body. `FindLaws` says what looking for a list answers. `Answers` says which answers a book can
-- draw, RAGGED and LONG not among them, and `Refused` exactly when one is refused. `Limits` says
-- what becomes of a book under other limits of lists. `Only` says that no second answer satisfies a
-- public contract.
pub mod Answers
pub mod BookLaws
pub mod FindLaws
pub mod Limits
pub mod Only
pub mod Refused
