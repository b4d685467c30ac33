-- The laws that the proofs of the functions cite. A function's own proof stands under its module and name.
pub mod Steps
pub mod Runs
pub mod AsBytes
pub mod Answers
pub mod Told
pub mod Unique
