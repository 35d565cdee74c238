mod Common
mod Forms
pub mod Extents
pub mod Firsts
pub mod Fronts
pub mod Layouts
pub mod Listed
pub mod ProperLayouts
pub mod Scan
pub mod Steps
pub mod Tapes
pub mod Outcomes
pub mod Within
pub mod WrittenLayouts
pub mod Opens
mod Tops
mod Snocs
pub mod Puts
mod Begins
mod Closes
mod Hops
pub mod Ends
mod Wholes
pub mod Running
mod Kept
mod Rooms
pub mod Trees
mod Accepted
mod Builds
