-- What is printed, and put into buffers.
pub mod Text
pub mod Listing
-- What is read from files. What the system itself reads is tested, not proved.
pub mod Input
