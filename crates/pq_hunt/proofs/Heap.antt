-- What each event of the heap keeps of its facts, over nodes as they count.
pub mod Counting
pub mod Writes
pub mod Heaps
pub mod Weights
pub mod Counts
pub mod Steps
pub mod Flown
pub mod Plain
pub mod Events
pub mod Told
pub mod Meanings
