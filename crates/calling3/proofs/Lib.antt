-- Laws of this crate's functions.
--     Call3Laws   the signals are of table 3a where none is outside
pub mod Call3Laws
