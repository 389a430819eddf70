-- What the functions of this crate compute on the way to the rows of `mode_a`.
--     Blocks   an identification block by its number, and what it is to a stage
pub mod Blocks
