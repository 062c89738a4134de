-- The laws of the definitions in specs/: `Unbeaten` of the first value that none beats, `Passing`
-- of a pass along the samples, `Cases` of the three kinds of answer. `Only` says that no second
-- answer satisfies the public contract.
-- What the demands cite: `Answered` tells the tests apart, and `Faults` finds the first faulty
-- sample. `Without` leaves samples out, `Extremes` finds the sample of a value, and `Found` reads
-- the answer.
pub mod Answered
pub mod Cases
pub mod Extremes
pub mod Faults
pub mod Found
pub mod Only
pub mod Passing
pub mod Unbeaten
pub mod Without
