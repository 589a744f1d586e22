-- What the rows are read from: the arrays, and of all extensions the parts that belong to the defined types.
pub mod Arrays
pub mod Parted
