-- What verifying promises: the order of its parts, and the promise; what an answer means; and the promise of worked texts.
pub mod Order
pub mod Promise
pub mod Means
pub mod Shown
