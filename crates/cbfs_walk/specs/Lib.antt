pub mod Cells
pub mod Shapes
pub mod Walks
pub mod CellReadings
pub mod AttrWalks
pub mod Search
pub mod Hashes
pub mod Laws
