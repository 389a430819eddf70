-- The code's columns and cells, beside the rows of `mode_a`.
--     Kinds     the eighteen kinds of burst, and what the rows can ask of each
--     Actions   the cell of each place at each kind
pub mod Kinds
pub mod Actions
