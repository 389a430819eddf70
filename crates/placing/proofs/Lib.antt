-- Calls of one station.
--     BurstLaws      what is a call burst, and which of the own call blocks a burst is
--     StepLaws       what a step does, as far as calls are concerned
--     CallingLaws    the calling station: at most 128 call bursts, in turn; when a call is answered, and when it fails
--     StandByLaws    Stand-by: what it does; the wait after a call that failed; when a call is heard
--     CallExamples   single runs: the bounds are reached
--     Refuted        rules that are none
pub mod BurstLaws
pub mod StepLaws
pub mod CallingLaws
pub mod StandByLaws
pub mod CallExamples
pub mod Refuted
