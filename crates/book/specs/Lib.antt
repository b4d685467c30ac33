-- What the contracts of the book's functions cite, besides document 01's own definitions in `scope`.
pub mod Told
pub mod Asked
pub mod Limits
pub mod Written
pub mod Opened
