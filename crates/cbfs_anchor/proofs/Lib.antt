pub mod Hashes
pub mod Places
pub mod Magics
pub mod Gathering
pub mod Seals
mod ReadNames
mod SealLaws
mod SealedComponents
mod SealedAnchors
mod SmallImage
