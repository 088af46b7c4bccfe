-- What the workers of a search share beside the queue.
pub mod Limits
pub mod Costs
pub mod Stores
pub mod StoreRules
pub mod Controls
pub mod ControlRules
pub mod Laws
