-- Laws of the call.
--     PassLaws   its answer and rooms, by what the record leads to
mod PassLaws
