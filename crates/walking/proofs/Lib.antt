-- Laws of the walk over a record.
--     RoomLaws      how much a record can have printed
--     TypedLaws     what a station has printed, and its room, as signals are put behind those before them
--     OutcomeLaws   what a record leads to from a place on, by the entry that stands there
--     TellLaws      an entry is told
--     LookLaws      what the place of a walk calls for
--     WalkingLaws   the walk over a record
mod RoomLaws
mod TypedLaws
pub mod OutcomeLaws
mod TellLaws
mod LookLaws
mod WalkingLaws
