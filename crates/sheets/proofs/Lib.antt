-- The laws of the definitions in specs/.
-- Laws for the code: `Subtotals` is about the columns of a row, and `SampleLaws` about stretches of
-- samples. `Limits` says which samples are inside a zone, `RowPlaces` where its row is written, and
-- `Walking` what the walk of a zone keeps. `Answering` tells the answers of the call apart. `Only`
-- says that no second answer satisfies the contract.
-- What the demands cite: `Answered` tells the tests of a call apart, and `FaultyWords` finds the
-- first faulty word. `Rows` reads the rows, and `LabSamples` the samples with their words. `Bounds`
-- says how large a row's numbers get, `Without` leaves missing samples out, and `Listed` finds a
-- row's samples in the full listing. `Around` climbs through the zones that contain a sample,
-- `ChildZones` says which of a zone's children has it, `Adding` adds subtotals, and `Totals` adds
-- rows.
pub mod Adding
pub mod Answered
pub mod Answering
pub mod Around
pub mod Bounds
pub mod ChildZones
pub mod FaultyWords
pub mod LabSamples
pub mod Limits
pub mod Listed
pub mod Only
pub mod RowPlaces
pub mod Rows
pub mod SampleLaws
pub mod Subtotals
pub mod Totals
pub mod Walking
pub mod Without
