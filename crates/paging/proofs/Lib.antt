-- Theorems for the reader: `Demand` says that no item of a done sequence of calls is lost, and that
-- no key comes twice. It also says that a call hands out only items of its own listing, and fills
-- its room unless it is done. `Whole` says that the pages of an unaltered listing are all of it.
-- Laws for the code: `KeyLaws` is what the order of keys does, and `PageLaws` what remains of a
-- listing and which place is reached. `Serving` says what an output shows of the items handed out
-- one by one.
pub mod Demand
pub mod KeyLaws
pub mod PageLaws
pub mod Serving
pub mod Whole
