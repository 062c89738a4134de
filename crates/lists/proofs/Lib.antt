-- Theorems for the reader. `Taken` reads a taken list pair by pair, `InBytes` a list that lies in
-- bytes, `Merging` a merge and `Pairing` two lists. `Refused` names the words and nodes that refuse
-- them, and `Drawn` bounds their answers. `Containers` bounds the nodes that contain one. `Leaving`
-- says that accepted lists with nodes left out are accepted, and any two such parts of one list
-- together. `Only` says that no second answer satisfies a public contract.
-- Laws for the code. `Faults` reads the tests one by one. `WalkLaws` says what the chain of open
-- nodes does, `StackLaws` how it lies on the stack, and `Steps` what each return of a step says.
-- `Keeping` says why the chain stands for all the nodes before, and `Walking` what a walk along one
-- list has left to check. `Runs` says what a run along one of two lists keeps, and `Documents` what
-- the walk along both keeps from document to document. `MergeSteps` takes one node off a merge, and
-- `MergeRuns` a run of nodes. `Naming` tells the answers of two lists apart.
pub mod Containers
pub mod Documents
pub mod Drawn
pub mod Faults
pub mod InBytes
pub mod Keeping
pub mod Leaving
pub mod MergeRuns
pub mod MergeSteps
pub mod Merging
pub mod Naming
pub mod Only
pub mod Pairing
pub mod Refused
pub mod Runs
pub mod StackLaws
pub mod Steps
pub mod Taken
pub mod WalkLaws
pub mod Walking
