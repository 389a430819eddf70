-- How the sender finds a slot, beside the list of `mode_b`.
--     Places   what stands at a position, by its number
--     Tests    a test of words, as a function decides it
pub mod Places
pub mod Tests
