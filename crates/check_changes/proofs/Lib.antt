pub mod ImageLemmas
pub mod AreaLemmas
pub mod ComponentLemmas
pub mod RegionLemmas
pub mod HolderLemmas
