-- Theorems for the reader: `Singles` says that the pages and the output are those of single calls.
-- `Refusals` says exactly when a question is refused, and `Answered` what a whole call answers.
-- `Neighbours` leaves out a refused question. `Batches` follows one question through calls.
-- `Limits` says what is answered under other limits of lists. `Only` says that no second answer
-- satisfies the public contract.
-- Laws for the code: `QuestionLaws` says how questions lie in words. `Padding` says how pages are
-- stored before zeros. `Turns` says what each question leaves to those after it. `Answering` says
-- how one question to a book, and a whole call, is answered.
pub mod Answered
pub mod Answering
pub mod Batches
pub mod Limits
pub mod Neighbours
pub mod Only
pub mod Padding
pub mod QuestionLaws
pub mod Refusals
pub mod Singles
pub mod Turns
