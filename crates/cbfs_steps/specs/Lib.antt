pub mod Laws
pub mod Progresses
pub mod Steps
