-- The laws that the proofs of the functions cite. A function's own proof stands under its module and name.
pub mod Rules
pub mod ByKind
pub mod Limits
pub mod Scanned
pub mod Answers
pub mod Fits
pub mod Written
pub mod Told
pub mod Unique
