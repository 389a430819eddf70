-- 02, T-05, and 001, 3.5 and 3.6: three-block calls and identification, told from the steps of a run and not from what the station keeps.
--     Runs          which steps repeat at a stage, which of them for a wrong check-sum; how many steps there were at a place; what was heard
--     Telling       a block goes out again for wrong check-sums four times at most; how long identification lasts; what is printed
--     Peers         who is at the other end, and until when
--     ThreeBlocks   three-block calls: at most 128 call bursts, in turn; what ends them; when one is answered
pub mod Runs
pub mod Telling
pub mod Peers
pub mod ThreeBlocks
