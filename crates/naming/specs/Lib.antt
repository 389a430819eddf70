-- What the functions of this crate answer on the way to the reason of `reasons`.
--     Places   the reason at each place, by what the place reads and carries
pub mod Places
