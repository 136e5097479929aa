pub mod Package
pub mod Refusals
pub mod PackageReading
pub mod PackageView
pub mod PackagesLeft
pub mod Table
pub mod TableReading
pub mod TableView
