mod Common
mod Lookups
mod Pasts
mod OneMore
mod Lifting
mod Doubts
mod Hearings
mod Datagram
mod Fives
mod Rooms
pub mod Effects
