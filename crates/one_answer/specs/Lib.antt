-- 02, T-08: the reason and the step.
--     Answers   what the step then does, a line a reason and a place
pub mod Answers
