-- What the receiver's own functions answer, beside the rules of `mode_b`.
--     Settling   the signal to which a position is settled is intact
pub mod Settling
