pub mod WorkedShops
pub mod MachineLoads
pub mod Kept
pub mod Rows
pub mod Planned
pub mod OneVerdict
pub mod Ends
