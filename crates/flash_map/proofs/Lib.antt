pub mod FmapLemmas
pub mod AreaLemmas
pub mod WrittenMaps
