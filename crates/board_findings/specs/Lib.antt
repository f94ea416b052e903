pub mod Components
pub mod BoardFindings
pub mod Verdicts
pub mod Laws
pub mod Structures
pub mod StructureLaws
