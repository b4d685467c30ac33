-- The laws that the proofs of the functions cite. A function's own proof stands under its module and name.
pub mod Rows
pub mod Deepest
pub mod Finding
pub mod Pasting
pub mod Putting
pub mod Answers
-- what callers have
pub mod Unique
pub mod Output
