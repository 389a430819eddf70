-- A call of three blocks between two stations, and identification.
--     Known   what it leaves, who each side then knows, what is printed meanwhile
pub mod Known
