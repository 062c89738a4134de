-- Theorems for the reader: `Printed` says that pages of a book's two lists, line by line, are what
-- is printed. `Limits` says what is printed under other limits of lists. `Only` says that no second
-- answer satisfies the contract.
-- Laws for the code: `PageLines` says what a page shows and that its lines are those of its pairs.
-- `Counting` is how many pairs are left after a page. `Answering` is which lists of a book are
-- joined. `Reasons` says what is passed on of a check's answer.
pub mod Answering
pub mod Counting
pub mod Limits
pub mod Only
pub mod PageLines
pub mod Printed
pub mod Reasons
