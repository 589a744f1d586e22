pub mod FilingRefusal
