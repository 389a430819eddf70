-- The inner functions' promises. Those of the calls leave one answer too: `proofs/Unique.antt` of `signals`, `text`, `mode_a`, `mode_b`,
-- `entries` and `reasons`.
--     Inner   no second answer satisfies the promise of an inner function
--     Named   the same of those that the questions stand on (02, T-08)
pub mod Inner
pub mod Named
