-- What the functions of this crate read.
--     Carried   what each place carries
pub mod Carried
