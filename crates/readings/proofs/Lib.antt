-- The laws of the definitions in specs/: `FloatBits` of the bits of a float, `Values` of
-- percentages and how they compare, `SampleLaws` of samples in words. `Refused` says what is faulty
-- case by case. `Only` says that no second answer satisfies a public contract.
pub mod FloatBits
pub mod Only
pub mod Refused
pub mod SampleLaws
pub mod Values
