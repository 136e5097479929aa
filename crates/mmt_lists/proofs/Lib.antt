pub mod CountedItems
pub mod Variants
pub mod ItemSteps
pub mod CountedSteps
