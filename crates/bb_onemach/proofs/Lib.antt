pub mod WorkedShops
pub mod Prepared
pub mod Sweeping
pub mod Gathered
pub mod HeadTables
pub mod RowTasks
pub mod Soonest
pub mod Branched
