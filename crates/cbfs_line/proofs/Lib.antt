mod Matches
mod Tables
