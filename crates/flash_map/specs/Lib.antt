pub mod Fmap
pub mod Regions
