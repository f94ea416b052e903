pub mod OptionTexts
pub mod Refusals
pub mod Requests
