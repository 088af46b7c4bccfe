-- What is shown of the steps of the store and of the control.
pub mod Free
pub mod StoreSeats
pub mod StoreSteps
pub mod StoreDeals
pub mod Costs
pub mod ControlSteps
