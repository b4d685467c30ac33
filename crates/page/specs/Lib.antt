-- What the contracts of the page's calls cite, besides document 01's own definitions in `scope`.
pub mod Told
