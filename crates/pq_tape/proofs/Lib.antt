-- What is shown of tapes and of texts of histories.
pub mod Pending
pub mod LineParts
pub mod HistoryLines
pub mod MarksLines
pub mod HistoryTexts
pub mod PlainHistory
pub mod Merging
