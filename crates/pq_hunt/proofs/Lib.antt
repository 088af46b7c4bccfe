-- What is shown of the heap, from its events up to its calls.
pub mod Heap
pub mod Keeping
pub mod Allowing
pub mod Calls
pub mod Ends
