-- What the contracts of the counter cite, besides document 01's own definitions in `scope`.
pub mod Printed
pub mod Placed
