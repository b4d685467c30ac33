-- What the contracts of flattening cite, besides document 01's own definitions in `scope`.
-- of its private functions
pub mod Rows
pub mod Depths
pub mod Copies
