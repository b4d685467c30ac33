-- The laws that the proofs of the functions cite. A function's own proof stands under its module and name.
pub mod Decimal
pub mod Texts
pub mod LastBytes
pub mod Lines
pub mod Longest
pub mod Served
pub mod Placed
pub mod Unique
