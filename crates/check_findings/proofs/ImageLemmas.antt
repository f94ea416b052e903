pub mod NameLemmas
pub mod StartLemmas
pub mod Regions
pub mod Fit
pub mod FitImages
pub mod Needs
pub mod Limits
