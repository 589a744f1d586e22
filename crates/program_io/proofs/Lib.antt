-- Numbers and lines as they are printed, and words as they are read.
pub mod Text
-- What is put into a lent buffer.
pub mod Put
pub mod Words
