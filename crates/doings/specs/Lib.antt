-- What the code's actions do, beside the rows of `mode_a`.
--     Doings   each action at a place
pub mod Doings
