-- Demand 3.
--     DamageLaws   what a damaged burst can still be
--     Link         what links the two stations, phase by phase
--     ReplyLaws    what links them again after a reply: what more than one row has in common
--     CallStepLaws a step in a call, or in identification, leads from link to link
--     StepLaws     and every step
--     RunLaws      so every circuit of a run is linked; what follows at once
--     CallLaws     a call: what it leaves where it is completed
--     TimeLaws     the exchange after a confirmation: neither station is Lost in it
--     LiveLaws     undamaged exchanges
--     SoundLaws    a station of a run is sound
--     Theorem      demand 3
--     Computed     how antt computes a run
--     Runs         single runs: it says something
--     CallRuns     a call, traffic and a turn
--     Call3Runs    a call of three blocks, identification, traffic and a turn
--     AnswerRuns   who are you, and the answer
--     Refuted      stronger sentences, and wrong readings of the rows
pub mod DamageLaws
pub mod Link
pub mod ReplyLaws
pub mod CallStepLaws
pub mod StepLaws
pub mod RunLaws
pub mod CallLaws
pub mod TimeLaws
pub mod LiveLaws
pub mod SoundLaws
pub mod Theorem
pub mod Computed
pub mod Runs
pub mod CallRuns
pub mod Call3Runs
pub mod AnswerRuns
pub mod Refuted
