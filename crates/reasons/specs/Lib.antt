-- 02, T-08: "Why did it ask again?"
--     Reasons      the reason for a station's answer, the first of 02's list that holds
--     Conditions   the condition of each reason, a line a reason, and the places of 02's list
--     Stars        why a receiver of mode B prints an error mark
pub mod Reasons
pub mod Conditions
pub mod Stars
