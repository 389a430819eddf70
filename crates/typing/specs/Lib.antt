-- Printed signals, block by block.
--     Typing   what is put behind what a station has printed so far
pub mod Typing
