-- Theorems for the reader: `Returned` says that writing and reading a book return each other's
-- words and bytes. `FoundAgain` says that each list that was written is found under its tag.
-- `Checking` says that LONG is never given. `Limits` says what is written under other limits of
-- lists. `Only` says that no second answer satisfies a public contract.
-- Laws for the code: `WantedLaws` is how entries lie in words. `BodyOffsets` is how bodies lie
-- after the contents. `Rules` is what the contents' rules bound. `Reading` and `Rereading` are what
-- a book that was written or read reads as. `Putting` is how its numbers are stored. `Outcomes` is
-- what a call answers.
pub mod BodyOffsets
pub mod Checking
pub mod FoundAgain
pub mod Limits
pub mod Only
pub mod Outcomes
pub mod Putting
pub mod Reading
pub mod Rereading
pub mod Returned
pub mod Rules
pub mod WantedLaws
