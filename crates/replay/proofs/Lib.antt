-- Laws of the two stations between two entries.
--     PrintLaws   what a step prints may be printed
--     GoLaws      what an entry leads to
mod PrintLaws
mod GoLaws
