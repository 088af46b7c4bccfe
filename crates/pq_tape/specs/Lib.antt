-- What tapes and texts of histories mean.
pub mod Limits
pub mod HistoryText
pub mod HistoryReading
pub mod HistorySpelling
pub mod Pending
pub mod Tapes
