pub mod Samples
pub mod AttributeSamples
