-- The laws that the proofs of the functions cite. A function's own proof stands under its module and name.
pub mod Calls
pub mod Unique
