pub mod Texts
pub mod Ascii
mod Words
