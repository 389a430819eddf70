-- What the functions of this crate answer, beside the rules of `mode_a`.
--     Parts   traffic signals word by word
pub mod Parts
