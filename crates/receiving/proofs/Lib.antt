-- Laws that the receiver's proofs share.
--     SettlingLaws   the copies of a phasing position are intact
pub mod SettlingLaws
