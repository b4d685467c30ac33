-- What the contracts of the quote cite, besides document 01's own definitions in `scope`.
-- of its private functions
pub mod Naming
pub mod Sums
pub mod Looked
pub mod Steadiness
-- of its laws alone
pub mod Marked
