-- `Only` says that no second answer satisfies the contract.
pub mod Only
