pub mod Named
pub mod Sample
