-- `Lines` and `Listings` have the laws of `specs/Listing.antt`: of a line, and of the whole.
pub mod Lines
pub mod Listings
