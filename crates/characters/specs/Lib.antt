-- The number of the signal that has a character, beside the rules of `text`.
--     Holder   a byte's holder, and its row
pub mod Holder
