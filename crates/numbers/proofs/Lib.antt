-- `LittleLaws` reads bytes as numbers and writes numbers as bytes. `Places` says where a part lies.
-- `Only` says that no second answer satisfies a public contract.
pub mod LittleLaws
pub mod Only
pub mod Places
