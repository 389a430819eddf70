-- Laws that the proofs of this crate share.
--     DamageLaws   a bit of the damage byte, masked out, is that unit
--     TurnLaws     whose burst is on the way after one was heard
mod DamageLaws
pub mod TurnLaws
