-- Theorems for the reader: `Answered` says what a call answers, and `Shown` that its output shows
-- the pairs it hands out. `Following` follows one listing through calls, and `Unaltered` does so on
-- lists that nobody alters. `Only` says that no second answer satisfies the contract.
-- Laws for the code: `Accepted` is what two accepted lists give at any index, and `Stretches` says
-- how a group is served from one place to another. `SweepStart` says where a sweep starts and which
-- followers of a leader lie past the place. `OpenNodes` says how the chain of open ancestors grows
-- and shrinks. `StackNodes` says so of the words of the stack, and `OpenStack` of a sweep that
-- passes ancestors. `Matching` says which of them match a descendant, `StackMatches` where these
-- lie on the stack, and `Descending` what a sweep along the descendants has left. `Running` is an
-- ancestor's run of descendants. `Children` says which of them lie directly inside and which an
-- inner zone holds. `Zones` says what a sweep along the ancestors has left, and `Jumps` which of
-- them it may pass at once. `ListingGroups` turns what matches into groups, and `Paged` what was
-- served into the page.
pub mod Accepted
pub mod Answered
pub mod Children
pub mod Descending
pub mod Following
pub mod Jumps
pub mod ListingGroups
pub mod Matching
pub mod Only
pub mod OpenNodes
pub mod OpenStack
pub mod Paged
pub mod Running
pub mod Shown
pub mod StackMatches
pub mod StackNodes
pub mod Stretches
pub mod SweepStart
pub mod Unaltered
pub mod Zones
