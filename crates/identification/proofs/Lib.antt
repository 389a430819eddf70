-- Three-block calls and identification, of one station.
--     StepLaws       what a step does, as far as identification is concerned
--     TellingLaws    wrong check-sums; how long identification lasts
--     SumLaws        which wrong check-sum ends the circuit, and which has the block sent again
--     PrintLaws      what is printed
--     PeerLaws       who is at the other end
--     CallStepLaws   what a step does, as far as three-block calls are concerned
--     CallingLaws    the calling station: at most 128 call bursts, in turn; what ends the call
--     StandByLaws    Stand-by: when a three-block call is answered, and when one is placed; the wait of 128
--     Examples       single runs: the bounds are reached
--     Refuted        rules that are none
pub mod StepLaws
pub mod TellingLaws
pub mod SumLaws
pub mod PrintLaws
pub mod PeerLaws
pub mod CallStepLaws
pub mod CallingLaws
pub mod StandByLaws
pub mod Examples
pub mod Refuted
