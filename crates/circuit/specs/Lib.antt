-- Two stations of mode A on one circuit: fresh, or after a call. The run of the two is `Circuit` of `runs`.
--     Starts    what a run starts from, and what a completed call leaves
--     Demand    demand 3, sentence by sentence
pub mod Starts
pub mod Demand
