pub mod Numbers
pub mod Texts
pub mod Rows
pub mod Known
pub mod Fields
pub mod Meanings
