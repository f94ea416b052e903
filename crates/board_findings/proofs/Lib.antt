pub mod SoundParts
pub mod PlacedComponents
pub mod CorebootParts
pub mod BoardParts
pub mod Differences
pub mod LostStructures
