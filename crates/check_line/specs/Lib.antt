pub mod CheckWords
pub mod OptionFiles
pub mod Shown
