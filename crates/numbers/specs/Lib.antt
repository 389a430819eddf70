-- The format of numbers (docs/FORMATS.md, "Numbers in, numbers out").
--     Reading   what an input lists
--     Steps     what the reader does at a byte and at the end, and a whole run of it
--     Writing   how words are written, and bytes put into lent room
pub mod Reading
pub mod Steps
pub mod Writing
