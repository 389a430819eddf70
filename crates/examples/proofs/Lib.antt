-- The examples of 01 that are marked P.
mod Examples
