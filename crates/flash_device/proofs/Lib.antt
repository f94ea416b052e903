pub mod DeviceLemmas
pub mod BytesLemmas
pub mod RegionLemmas
pub mod CopyLemmas
pub mod WindowLemmas
