-- 02, T-02, and 001, 3.5: what a call does, told from the steps of a run and not from what the station keeps.
--     Runs      which bursts are call bursts, how many went out in a row, and to whom
--     Calling   never more than 128 call bursts, in turn; when a call is answered, and when it fails
--     StandBy   what Stand-by does; 128 steps without a call after one that failed; when a call is heard
pub mod Runs
pub mod Calling
pub mod StandBy
