mod Common
pub mod Runs
pub mod Routes
pub mod Puts
pub mod Fits
