pub mod FirstLemmas
pub mod Reads
pub mod ListingLemmas
pub mod ChangeLemmas
