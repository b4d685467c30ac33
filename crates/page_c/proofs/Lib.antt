-- That a caller in C learns one answer from each promise.
pub mod Unique
