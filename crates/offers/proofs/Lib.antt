-- Laws that the crates above cite.
--     NextLaws   what goes next, taken under a number, is the rule of `mode_a`
pub mod NextLaws
