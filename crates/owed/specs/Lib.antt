-- What the functions of this crate answer, beside the rules of `mode_a`.
--     Blocks   how many blocks a code fills, and its block at an index
pub mod Blocks
