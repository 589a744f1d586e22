-- The number of a name, its hash, the table and the order that names are numbered by, and a name sought there.
pub mod Numbers
pub mod Named
pub mod Hashes
pub mod Table
pub mod Order
pub mod Lookup
