pub mod Compilations
pub mod Prefixes
mod CompiledMaps
