-- What the contracts of the unit cite beside document 01's own words.
pub mod Told
