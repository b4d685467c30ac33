-- The laws that the proofs of the functions cite. A function's own proof stands under its module and name.
pub mod Bits
pub mod Masks
pub mod Looks
pub mod Keeping
pub mod Steadiness
pub mod Answers
-- what callers have
pub mod Unique
