-- `Faulty` says that the part at fault is where the answer says, and `Only` that no second answer
-- satisfies a contract.
pub mod Faulty
pub mod Only
