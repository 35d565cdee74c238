mod Walks
mod Handed
