-- The parts of extensions, all rows, and the turns of the schema's functions.
pub mod Parts
pub mod SchemaTurns
pub mod Catalogue
