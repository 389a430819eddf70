-- Definitions that say nothing of telex.
--     Room     lent room of which a first part is written
pub mod Room
