mod AreaNames
mod Causes
mod Named
mod Refused
pub mod WalkParts
pub mod ComponentNames
