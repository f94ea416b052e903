pub mod CommandLine
pub mod Subcommands
