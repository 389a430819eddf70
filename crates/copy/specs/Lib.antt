-- 01, Mode B: a broadcast as one receiver hears it.
--     Run       damage by slots, the words heard, and what is printed of them
--     Premise   the premise for a perfect copy, and a weaker one
--     Reading   what a reader sees under any damage that is never one of the 35
pub mod Run
pub mod Premise
pub mod Reading
