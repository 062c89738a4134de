-- Theorems for the reader: `Answered` says when links are taken and when they are refused.
-- `Refusing` says the same of a page call that is lent them, and that it is the plain call
-- otherwise. `Mixed` follows one listing through calls with links and without, and `FromC` does so
-- from C. `Only` says that no second answer satisfies a public contract.
-- Laws for the code: `Kin` says where a node of an accepted list has no child or no next sibling,
-- and which ones it has. `Telling` is what one node more tells of the links. `WayUp` is what the
-- way up from a node tells. `InWords` is how nodes and links lie in words. `Lending` is how a page
-- call that is lent links answers.
pub mod Answered
pub mod FromC
pub mod InWords
pub mod Kin
pub mod Lending
pub mod Mixed
pub mod Only
pub mod Refusing
pub mod Telling
pub mod WayUp
