-- The repetition count of one station, its ααα, and Stand-by.
--     StepLaws        one step: a repetition is a row that repeats; what that does to the count
--     EndLaws         one step: how often ααα has been sent
--     StandByLaws     one step at Stand-by: silent but for calls
--     CountLaws       every run from a fresh station
--     CountExamples   single runs: the four happen
--     Refuted         a count that is wrong by one operand
pub mod StepLaws
pub mod EndLaws
pub mod StandByLaws
pub mod CountLaws
pub mod CountExamples
pub mod Refuted
