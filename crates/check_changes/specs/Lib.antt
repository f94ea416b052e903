pub mod Anchors
pub mod Images
pub mod Areas
pub mod Holders
pub mod Laws
pub mod Components
pub mod Regions
