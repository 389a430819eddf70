-- Laws of the actions that the crates above cite.
--     RowLaws   the table and its actions are the rows of `mode_a`
pub mod RowLaws
