pub mod FirstAreas
pub mod MapAreas
pub mod MapLemmas
pub mod RegionLemmas
pub mod AnchorLemmas
pub mod ImageLemmas
