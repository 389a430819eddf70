-- Columns   every kind has a name
pub mod Columns
