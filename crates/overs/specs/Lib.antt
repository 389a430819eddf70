-- 01, The station, mode A: "The over is heard when ..", told over a run of one station.
--     Overs   the words accepted since the circuit began and since the last cancelling step, and the over and who are you as
--             splittings of these
pub mod Overs
