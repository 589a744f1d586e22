pub mod Laws
pub mod NameLaws
pub mod HashLaws
pub mod TableLaws
pub mod OrderLaws
pub mod OrderRuns
pub mod OrderNumbers
pub mod LookupLaws
