pub mod Device
pub mod TestDevices
pub mod Laws
pub mod Pages
pub mod Regions
