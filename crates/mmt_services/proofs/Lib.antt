pub mod PackageLaw
pub mod PackageSteps
pub mod TableLaw
