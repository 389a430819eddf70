-- What the functions of this crate do, beside the rows of `mode_a`.
--     Moves   Sending and Ending that hear a control signal
pub mod Moves
