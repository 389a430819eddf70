-- The walk over a record.
--     Walk   where a walk stands beside the definition of a passage, and what it answers
pub mod Walk
